-- Small programs and their first faults, read by the definitions. Each `at` is that of the source in the comment.
use Rattle.std.proofs.Common.{◌≡◌, ◌∷◌, ◌+◌, ℕ, ℤ, pos, refl, List, [], None, false, codes, Result, Ok, Err}
use Rattle.fault_order.specs.Private.FirstMet.{first}
use Rattle.fix_word.specs.declared.types.Mode.TheVariants.{Trunc}
use Rattle.fix_word.specs.declared.types.SigType.TheVariants as sig
use Rattle.silage_syntax.specs.declared.tree.Decl.{Decl}
use Rattle.silage_syntax.specs.declared.tree.Lit.{Lit}
use Rattle.silage_syntax.specs.declared.tree.Lit.TheVariants.{Number}
use Rattle.silage_syntax.specs.declared.tree.MOp.TheVariants.{Sub}
use Rattle.silage_syntax.specs.Tree.{Manifest, whole, counter, both, Place, Expr, read, equation, call, loop, Item}
use Rattle.silage_syntax.specs.Tree.{no_item, items_of, Top, function, Program}
use Rattle.element_rules.specs.declared.elements.Instance.{Instance}
use Rattle.element_rules.specs.Expansion.{instances_after}
use Rattle.element_rules.specs.ElementRules.{program_table, element_rules}
use Rattle.element_rules.specs.declared.fault.PlacedFault.{PlacedFault}
use Rattle.element_rules.specs.declared.fault.PlacedFault.TheVariants.{Bounds, DefinedTwice, NotDefined, TooLarge}

-- Parts of trees.
abbrev decl : List ℕ → (at : ℕ) → List ℕ → Decl
decl name at dims = record {
  name = name;
  at = at;
  dims = dims;
  ty = sig.Fix (record { shape = record { w = 8; f = 0 }; mode = Trunc });
}

abbrev place : List ℕ → (at : ℕ) → List Manifest → Place
place name at subs = record { name = name; at = at; subs = subs }

abbrev bare : List ℕ → (at : ℕ) → Expr
bare name at = read (place name at []) None

abbrev number : ℕ → (at : ℕ) → Lit
number n at = Number false n 0 at

-- func main(x : fix<8,0>) y : fix<8,0> = begin .. end;
abbrev framed : List Top → List Decl → List Item → Program
framed tops locals items =
    record {
      tops =
          function
          (record {
            name = codes "main";
            at = 5;
            params = decl (codes "x") 10 [] ∷ [];
            results = decl (codes "y") 24 [] ∷ [];
            locals = locals;
            items = items_of items;
          }) ∷ tops;
    }

abbrev alone : List Item → Program
alone items = framed [] [] items

-- what one meets first
abbrev met : Program → Result (Unit {0}) PlacedFault
met p = first (element_rules p)

-- y = x;
abbrev y_is_x : (at : ℕ) → Item
y_is_x at = equation (place (codes "y") at []) (bare (codes "x") (at + 4))

well : met (alone (y_is_x 45 ∷ [])) ≡ Ok tt
well = refl

twice : met (alone (y_is_x 45 ∷ y_is_x 52 ∷ [])) ≡ Err (DefinedTwice 52)
twice = refl

-- x = x;  a parameter is defined by its call
parameter : met (alone (equation (place (codes "x") 45 []) (bare (codes "x") 49) ∷ [])) ≡ Err (DefinedTwice 45)
parameter = refl

-- (i : 3 .. 0) :: begin y = x; end;
empty_loop : met (alone (loop (codes "i") (whole 3 50) (whole 0 55) (items_of (y_is_x 67 ∷ [])) 45 ∷ []))
    ≡ Err (NotDefined 24 0)
empty_loop = refl

-- var a[4] : fix<8,0>; (i : 0 .. 3) :: begin a[i] = x; end; a[3] = x; y = a[0];
defined_in_two_turns :
    met (framed [] (decl (codes "a") 49 (4 ∷ []) ∷ [])
    (loop (codes "i") (whole 0 71) (whole 3 76)
    (items_of (equation (place (codes "a") 88 (counter (codes "i") 90 ∷ [])) (bare (codes "x") 95) ∷ [])) 66
    ∷ equation (place (codes "a") 103 (whole 3 105 ∷ [])) (bare (codes "x") 110)
    ∷ equation (place (codes "y") 113 []) (read (place (codes "a") 117 (whole 0 119 ∷ [])) None) ∷ []))
    ≡ Err (DefinedTwice 103)
defined_in_two_turns = refl

-- var a[8180] : fix<8,0>; y = x; (i : 0 .. 20) :: begin end;
many_turns :
    met (framed [] (decl (codes "a") 49 (8180 ∷ []) ∷ [])
    (y_is_x 69 ∷ loop (codes "i") (whole 0 81) (whole 20 86) no_item 76 ∷ [])) ≡ Err (TooLarge 76)
many_turns = refl

-- Instances.
-- func f(v : fix<8,0>) w : fix<8,0> = begin w = v; end;
abbrev f : Top
f = function (record {
  name = codes "f";
  at = 100;
  params = decl (codes "v") 102 [] ∷ [];
  results = decl (codes "w") 120 [] ∷ [];
  locals = [];
  items = items_of (equation (place (codes "w") 140 []) (bare (codes "v") 144) ∷ []);
})

-- an instance that a call of f in main makes
abbrev of_f : (site : ℕ) → List ℤ → Instance
of_f site turns = record { func = 1; parent = 0; site = site; turns = turns }

abbrev of_main : Instance
of_main = record { func = 0; parent = 0; site = 0; turns = [] }

abbrev instances : Program → List Instance
instances p = instances_after 0 [] (program_table p)

-- var z : fix<8,0>; z = f(x); y = f(z);
two_calls :
    instances
    (framed (f ∷ []) (decl (codes "z") 40 [] ∷ [])
    (call (place (codes "z") 55 [] ∷ []) (codes "f") (bare (codes "x") 61 ∷ []) 59
    ∷ call (place (codes "y") 65 [] ∷ []) (codes "f") (bare (codes "z") 71 ∷ []) 69 ∷ []))
    ≡ of_main ∷ of_f 59 [] ∷ of_f 69 [] ∷ []
two_calls = refl

-- var m[2][2] : fix<8,0>; (i : 0 .. 1) :: begin (j : 5 .. 6) :: begin m[i][j - 5] = f(x); end; end; y = m[0][0];
abbrev in_loops : List Item → Program
in_loops rest = framed (f ∷ []) (decl (codes "m") 40 (2 ∷ 2 ∷ []) ∷ []) (
    loop (codes "i") (whole 0 63) (whole 1 68) (items_of (
    loop (codes "j") (whole 5 87) (whole 6 92) (items_of (
    call
    (place (codes "m") 104 (counter (codes "i") 106 ∷ both 111 Sub (counter (codes "j") 109) (whole 5 113) ∷ []) ∷ [])
    (codes "f") (bare (codes "x") 120 ∷ []) 118
    ∷ [])) 82
    ∷ [])) 58
    ∷ rest)

calls_in_loops : instances (in_loops [])
    ≡ of_main ∷ of_f 118 (pos 0 ∷ pos 5 ∷ []) ∷ of_f 118 (pos 0 ∷ pos 6 ∷ []) ∷ of_f 118 (pos 1 ∷ pos 5 ∷ [])
    ∷ of_f 118 (pos 1 ∷ pos 6 ∷ []) ∷ []
calls_in_loops = refl

defined_in_loops :
    met (in_loops
    (equation (place (codes "y") 140 []) (read (place (codes "m") 144 (whole 0 146 ∷ whole 0 149 ∷ [])) None) ∷ []))
    ≡ Ok tt
defined_in_loops = refl

-- y = m[0][2];
past_a_row :
    met (in_loops
    (equation (place (codes "y") 140 []) (read (place (codes "m") 144 (whole 0 146 ∷ whole 2 149 ∷ [])) None) ∷ []))
    ≡ Err (Bounds 149)
past_a_row = refl
