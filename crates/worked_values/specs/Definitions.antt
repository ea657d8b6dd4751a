-- A program with each way in which an element is defined: a call with an array, a table and a value, its results, and
-- a loop.
use Rattle.std.specs.Prelude.{◌≡◌, ℕ, ℤ, pos, negsuc, false, codes, [], ◌∷◌, Some, None}
use Rattle.fix_word.specs.declared.types.Mode.TheVariants.{Trunc}
use Rattle.fix_word.specs.declared.types.SigType.{SigType}
use Rattle.silage_syntax.specs.declared.tree.ConstDef.{ConstDef}
use Rattle.silage_syntax.specs.declared.tree.MOp.TheVariants as mop
use Rattle.silage_syntax.specs.Manifests.{manifest_value}
use Rattle.silage_syntax.specs.Names.{IsOffset}
use Rattle.silage_syntax.specs.Tree.{whole, counter, minus, both, read, equation, call, loop, no_item, item, Func}
use Rattle.silage_syntax.specs.Tree.{table, function, Program}
use Rattle.silage_meaning.specs.Instances.{Instance, main, inside, Element, element, Site, IsTurn, inputs, outputs}
use Rattle.silage_meaning.specs.Solves.{Source, word, value, same, number, IsDefined}
use Rattle.worked_values.specs.Trees.{fix, fix_type, declaration, bare, entry_of, now, decimal_number}

abbrev pub byte : SigType
byte = fix 8 0 Trunc

-- const k[2] : fix<8,0> = (3, 4);
abbrev pub of_k : ConstDef
of_k = record {
  name = codes "k";
  at = 0;
  dims = 2 ∷ [];
  ty = fix_type 8 0 Trunc;
  words = decimal_number false 3 0 ∷ decimal_number false 4 0 ∷ [];
}

-- func f(v[2] : fix<8,0>, w[2] : fix<8,0>, s : fix<8,0>) (z[2] : fix<8,0>, t : fix<8,0>), whose body is of no matter
abbrev pub called : Func
called = record {
  name = codes "f";
  at = 0;
  params =
      declaration (codes "v") (2 ∷ []) byte ∷ declaration (codes "w") (2 ∷ []) byte ∷ declaration (codes "s") [] byte
      ∷ [];
  results = declaration (codes "z") (2 ∷ []) byte ∷ declaration (codes "t") [] byte ∷ [];
  locals = [];
  items = no_item;
}

-- func main(a[2] : fix<8,0>, b : fix<8,0>) (y[2] : fix<8,0>, u : fix<8,0>) = begin var p[2] : fix<8,0>;
-- (y, u) = f(a, k, b); (i : 0 .. 1) :: begin p[i] = a[i]; end; end;  The call stands at byte 7.
abbrev pub calling : Func
calling = record {
  name = codes "main";
  at = 0;
  params = declaration (codes "a") (2 ∷ []) byte ∷ declaration (codes "b") [] byte ∷ [];
  results = declaration (codes "y") (2 ∷ []) byte ∷ declaration (codes "u") [] byte ∷ [];
  locals = declaration (codes "p") (2 ∷ []) byte ∷ [];
  items =
      item
      (call (bare (codes "y") ∷ bare (codes "u") ∷ []) (codes "f")
      (now (codes "a") ∷ now (codes "k") ∷ now (codes "b") ∷ [])
      7)
      (item
      (loop (codes "i") (whole 0 0) (whole 1 0)
      (item
      (equation (entry_of (codes "p") (counter (codes "i") 0))
      (read (entry_of (codes "a") (counter (codes "i") 0)) None))
      no_item) 0) no_item);
}

abbrev pub calls : Program
calls = record { tops = table of_k ∷ function called ∷ function calling ∷ [] }

-- the instance of f that the call makes, main as a site, and the second turn of the loop
abbrev pub made : Instance
made = inside main (record { at = 7; turns = [] })

abbrev pub in_main : Site
in_main = record { instance = main; function = calling; indices = [] }

abbrev pub second_turn : Site
second_turn = record { instance = main; function = calling; indices = (codes "i", pos 1) ∷ [] }

abbrev pub IsSource : Element → Source → Type 0
IsSource e source = IsDefined calls e source

-- a[1] and b are the second and third word of a row; v[1] is a[1], w[0] is the first number of k, s is b; y[1] is z[1]
-- and u is t; p[1] is a[i] in the second turn
abbrev pub EachSourceDefines : Type 0
EachSourceDefines =
    IsSource (element main 0 1) (word 1) × IsSource (element main 1 0) (word 2)
    × IsSource (element made 0 1) (same (element main 0 1) byte byte)
    × IsSource (element made 1 0) (number of_k 0 byte)
    × IsSource (element made 2 0) (value in_main (now (codes "b")) byte)
    × IsSource (element main 2 1) (same (element made 3 1) byte byte)
    × IsSource (element main 3 0) (same (element made 4 0) byte byte)
    × IsSource (element main 4 1) (value second_turn (read (entry_of (codes "a") (counter (codes "i") 0)) None) byte)

-- the words of a row are a[0], a[1] and b, and those that are put y[0], y[1] and u
abbrev pub WordsComeInOrder : Type 0
WordsComeInOrder =
    (inputs calls ≡ element main 0 0 ∷ element main 0 1 ∷ element main 1 0 ∷ [])
    × (outputs calls ≡ element main 2 0 ∷ element main 2 1 ∷ element main 3 0 ∷ [])

-- a loop from 0 to 1 has the turns 0 and 1, one from 1 to 0 has none
abbrev pub LoopsHaveTurns : ℤ → Type 0
LoopsHaveTurns turn =
    IsTurn [] (whole 0 0) (whole 1 0) (pos 0) × IsTurn [] (whole 0 0) (whole 1 0) (pos 1)
    × (IsTurn [] (whole 0 0) (whole 1 0) (pos 2) → ⊥) × (IsTurn [] (whole 1 0) (whole 0 0) turn → ⊥)

-- m[1][2] of m[2][3] is at offset 5, and there is no m[1][3]; 2 * i - 7 is -1 where i is 3; 2147483648 is out of range;
-- of two indices of one name, which the rules on names refuse, the outer one would count
abbrev pub SubscriptsHaveValues : ℕ → Type 0
SubscriptsHaveValues k =
    IsOffset [] (2 ∷ 3 ∷ []) (whole 1 0 ∷ whole 2 0 ∷ []) 5
    × (IsOffset [] (2 ∷ 3 ∷ []) (whole 1 0 ∷ whole 3 0 ∷ []) k → ⊥)
    × (manifest_value ((codes "i", pos 3) ∷ [])
    (both 0 mop.Sub (both 0 mop.Mul (whole 2 0) (counter (codes "i") 0)) (whole 7 0)) ≡ Some (negsuc 0))
    × (manifest_value [] (minus 0 (both 0 mop.Add (whole 2147483647 0) (whole 1 0))) ≡ None)
    × (manifest_value ((codes "i", pos 3) ∷ (codes "i", pos 4) ∷ []) (counter (codes "i") 0) ≡ Some (pos 3))
