-- Small programs and their first faults, read by the definitions. Each `at` is that of the source in the comment.
use Rattle.std.proofs.Common.{◌≡◌, ◌∷◌, ◌+◌, ℕ, zero, suc, refl, arith, List, [], Some, None, false, codes, Result, Ok}
use Rattle.std.proofs.Common.{Err, replicate}
use Rattle.fault_order.specs.Ranked.{IsFirst}
use Rattle.fault_order.specs.Private.FirstMet.{first}
use Rattle.fix_word.specs.declared.types.FixType.{FixType}
use Rattle.fix_word.specs.declared.types.Mode.TheVariants.{Trunc}
use Rattle.fix_word.specs.declared.types.SigType.TheVariants as sig
use Rattle.silage_syntax.specs.declared.tree.BinOp.TheVariants as op
use Rattle.silage_syntax.specs.declared.tree.Decl.{Decl}
use Rattle.silage_syntax.specs.declared.tree.Lit.{Lit}
use Rattle.silage_syntax.specs.declared.tree.Lit.TheVariants.{Number}
use Rattle.silage_syntax.specs.Tree.{Manifest, whole, counter, Place, Expr, literal, read, binary, cast, equation, call}
use Rattle.silage_syntax.specs.Tree.{loop, initial, Item, no_item, items_of, Top, table, function, Program}
use Rattle.name_rules.specs.FirstTops.{IsDistinct}
use Rattle.digraph.specs.Arcs.{HasNoCycle, by_arc, by_arcs}
use Rattle.name_rules.specs.Calls.{Calls}
use Rattle.name_rules.specs.NameRules.{all_top_rules}
use Rattle.name_rules.specs.NameFaults.{name_faults}
use Rattle.name_rules.specs.declared.fault.NameFault.{NameFault}
use Rattle.name_rules.specs.declared.fault.NameFault.TheVariants.{Unknown, Twice, NoMain, Arity, Size}
use Rattle.name_check.proofs.NameAnswers.{inside_first, no_main_first}

-- Parts of trees.
abbrev fix_type : (w f : ℕ) → FixType
fix_type w f = record { shape = record { w = w; f = f }; mode = Trunc }

abbrev decl : List ℕ → (at : ℕ) → List ℕ → Decl
decl name at dims = record { name = name; at = at; dims = dims; ty = sig.Fix (fix_type 8 0) }

abbrev place : List ℕ → (at : ℕ) → List Manifest → Place
place name at subs = record { name = name; at = at; subs = subs }

abbrev bare : List ℕ → (at : ℕ) → Expr
bare name at = read (place name at []) None

abbrev number : ℕ → (at : ℕ) → Lit
number n at = Number false n 0 at

-- func main(x : fix<8,0>) y : fix<8,0> = begin .. end;
abbrev framed : List Top → List Decl → List Item → Program
framed tops locals items =
    record {
      tops =
          function
          (record {
            name = codes "main";
            at = 5;
            params = decl (codes "x") 10 [] ∷ [];
            results = decl (codes "y") 24 [] ∷ [];
            locals = locals;
            items = items_of items;
          }) ∷ tops;
    }

abbrev alone : List Item → Program
alone items = framed [] [] items

-- what one meets first inside the tables and functions
abbrev met : Program → Result (Unit {0}) NameFault
met p = first (all_top_rules p)

-- y = x;
well : met (alone (equation (place (codes "y") 45 []) (bare (codes "x") 49) ∷ [])) ≡ Ok tt
well = refl

-- y = z;
unknown_read : met (alone (equation (place (codes "y") 45 []) (bare (codes "z") 49) ∷ [])) ≡ Err (Unknown 49)
unknown_read = refl

-- z = x;
unknown_place : met (alone (equation (place (codes "z") 45 []) (bare (codes "x") 49) ∷ [])) ≡ Err (Unknown 45)
unknown_place = refl

-- z[0] = x;  Unknown stands before Arity at one name
unknown_before_arity : met (alone (equation (place (codes "z") 45 (whole 0 47 ∷ [])) (bare (codes "x") 52) ∷ []))
    ≡ Err (Unknown 45)
unknown_before_arity = refl

-- y[0] = x;
too_many_subscripts : met (alone (equation (place (codes "y") 45 (whole 0 47 ∷ [])) (bare (codes "x") 52) ∷ []))
    ≡ Err (Arity 45)
too_many_subscripts = refl

-- main = x;  a function is no signal, and may not be read
function_on_the_left : met (alone (equation (place (codes "main") 45 []) (bare (codes "x") 52) ∷ [])) ≡ Err (Unknown 45)
function_on_the_left = refl

function_read : met (alone (equation (place (codes "y") 45 []) (bare (codes "main") 49) ∷ [])) ≡ Err (Unknown 49)
function_read = refl

-- y = x@i;
unknown_index :
    met
    (alone (equation (place (codes "y") 45 []) (read (place (codes "x") 49 []) (Some (counter (codes "i") 51))) ∷ []))
    ≡ Err (Unknown 51)
unknown_index = refl

-- (i : 0 .. 1) :: begin (i : 0 .. 1) :: begin end; end;
doubled_index :
    met (alone (loop (codes "i") (whole 0 50) (whole 1 55)
    (items_of (loop (codes "i") (whole 0 72) (whole 1 77) no_item 67 ∷ [])) 45 ∷ [])) ≡ Err (Twice 67)
doubled_index = refl

-- (i : 0 .. 1) :: begin end; (i : 0 .. 1) :: begin end;  loops side by side may share an index
shared_index :
    met (alone (loop (codes "i") (whole 0 50) (whole 1 55) no_item 45
    ∷ loop (codes "i") (whole 0 77) (whole 1 82) no_item 72 ∷ [])) ≡ Ok tt
shared_index = refl

-- (i : 0 .. i) :: begin end;  the bounds stand outside of the loop
index_in_its_bounds : met (alone (loop (codes "i") (whole 0 50) (counter (codes "i") 55) no_item 45 ∷ []))
    ≡ Err (Unknown 55)
index_in_its_bounds = refl

-- (x : 0 .. j) :: begin end;  a loop's Twice stands before the names in its bounds
index_of_a_signal : met (alone (loop (codes "x") (whole 0 50) (counter (codes "j") 55) no_item 45 ∷ []))
    ≡ Err (Twice 45)
index_of_a_signal = refl

-- y = fix<41,0>(z);
size_of_a_cast : met (alone (equation (place (codes "y") 45 []) (cast 49 (fix_type 41 0) (bare (codes "z") 59)) ∷ []))
    ≡ Err (Size 49)
size_of_a_cast = refl

-- y = fix<40,0>(x);
widest_cast : met (alone (equation (place (codes "y") 45 []) (cast 49 (fix_type 40 0) (bare (codes "x") 59)) ∷ []))
    ≡ Ok tt
widest_cast = refl

-- y@@i = 1;
unknown_amount : met (alone (initial (place (codes "y") 45 []) (counter (codes "i") 48) (number 1 52) ∷ []))
    ≡ Err (Unknown 48)
unknown_amount = refl

-- Behind main: func f(v[2] : fix<8,0>) w[3] : fix<8,0> = begin end;
abbrev f : Top
f =
    function
    (record {
      name = codes "f";
      at = 105;
      params = decl (codes "v") 107 (2 ∷ []) ∷ [];
      results = decl (codes "w") 123 (3 ∷ []) ∷ [];
      locals = [];
      items = no_item;
    })

abbrev with_f : (target : Place) → List Expr → (at : ℕ) → Program
with_f target args at =
    framed (f ∷ []) (decl (codes "a") 49 (2 ∷ []) ∷ decl (codes "b") 55 (3 ∷ []) ∷ [])
    (call (target ∷ []) (codes "f") args at ∷ [])

-- b = f(a);
array_call : met (with_f (place (codes "b") 72 []) (bare (codes "a") 78 ∷ []) 76) ≡ Ok tt
array_call = refl

-- b = f(zz + 1);  an argument that is no bare name, before the names inside it
no_bare_name :
    met (with_f (place (codes "b") 72 []) (binary 81 op.Add (bare (codes "zz") 78) (literal (number 1 83)) ∷ []) 76)
    ≡ Err (Arity 81)
no_bare_name = refl

-- b = f(zz@1); b = f(a@1); b = f(a[0]); b = f(b);
unknown_argument : met (with_f (place (codes "b") 72 []) (read (place (codes "zz") 78 []) (Some (whole 1 81)) ∷ []) 76)
    ≡ Err (Unknown 78)
unknown_argument = refl

delayed_argument : met (with_f (place (codes "b") 72 []) (read (place (codes "a") 78 []) (Some (whole 1 80)) ∷ []) 76)
    ≡ Err (Arity 78)
delayed_argument = refl

element_for_an_array :
    met (with_f (place (codes "b") 72 []) (read (place (codes "a") 78 (whole 0 80 ∷ [])) None ∷ []) 76) ≡ Err (Arity 78)
element_for_an_array = refl

other_dims : met (with_f (place (codes "b") 72 []) (bare (codes "b") 78 ∷ []) 76) ≡ Err (Arity 78)
other_dims = refl

-- a = f(a); b[0] = f(a); b = f(a, a);  a place is judged before the number of arguments
place_of_other_dims : met (with_f (place (codes "a") 72 []) (bare (codes "a") 78 ∷ bare (codes "a") 81 ∷ []) 76)
    ≡ Err (Arity 72)
place_of_other_dims = refl

element_for_a_result : met (with_f (place (codes "b") 72 (whole 0 74 ∷ [])) (bare (codes "a") 81 ∷ []) 79)
    ≡ Err (Arity 72)
element_for_a_result = refl

too_many_arguments : met (with_f (place (codes "b") 72 []) (bare (codes "a") 78 ∷ bare (codes "a") 81 ∷ []) 76)
    ≡ Err (Arity 76)
too_many_arguments = refl

-- a = g(x); a[0][0] = g(x);  with no function g a place is wrong only if it could take no result at all
abbrev with_g : List Manifest → (at : ℕ) → Program
with_g subs at =
    framed [] (decl (codes "a") 49 (2 ∷ []) ∷ [])
    (call (place (codes "a") 66 subs ∷ []) (codes "g") (bare (codes "x") (at + 2) ∷ []) at ∷ [])

unknown_function : met (with_g [] 70) ≡ Err (Unknown 70)
unknown_function = refl

place_before_the_name : met (with_g (whole 0 68 ∷ whole 0 71 ∷ []) 76) ≡ Err (Arity 66)
place_before_the_name = refl

-- const h[2] : fix<w,0> = (1, .. 1);  with so many words
abbrev h : (w count : ℕ) → Top
h w count =
    table (record { name = codes "h"; at = 6; dims = 2 ∷ []; ty = fix_type w 0; words = replicate count (number 1 25) })

too_many_words : met (record { tops = h 8 3 ∷ [] }) ≡ Err (Arity 6)
too_many_words = refl

size_before_arity : met (record { tops = h 41 3 ∷ [] }) ≡ Err (Size 6)
size_before_arity = refl

-- var y[0] : fix<8,0>;  Size stands before Twice
size_before_twice : met (framed [] (decl (codes "y") 49 (0 ∷ []) ∷ []) []) ≡ Err (Size 49)
size_before_twice = refl

-- var y, main : fix<8,0>;
result_and_local : met (framed [] (decl (codes "y") 49 [] ∷ decl (codes "main") 52 [] ∷ []) []) ≡ Err (Twice 49)
result_and_local = refl

local_of_a_functions_name : met (framed [] (decl (codes "main") 49 [] ∷ []) []) ≡ Err (Twice 49)
local_of_a_functions_name = refl

-- of the whole phase
one_name : (name : List ℕ) → IsDistinct (name ∷ [])
one_name name zero d = let b = d.before in absurd (omega arith)
one_name name (suc k) d = let e = d.here in absurd (cc)

unknown_is_first :
    IsFirst (name_faults (alone (equation (place (codes "y") 45 []) (bare (codes "z") 49) ∷ []))) (Unknown 49)
unknown_is_first =
    inside_first (alone (equation (place (codes "y") 45 []) (bare (codes "z") 49) ∷ [])) (one_name (codes "main"))
    (Unknown 49) refl

-- an empty source
abbrev nothing : Program
nothing = record { tops = [] }

nothing_calls : HasNoCycle (Calls nothing)
nothing_calls k (by_arc c) = let e = c.stands in absurd (cc)
nothing_calls k (by_arcs c more) = let e = c.stands in absurd (cc)

empty_source : IsFirst (name_faults nothing) NoMain
empty_source = no_main_first nothing (λ k d. let e = d.here in absurd (cc)) refl nothing_calls refl
