-- Which functions call which, and which functions reach which by calls.
use Rattle.std.specs.Prelude.{◌≡◌, ℕ, List, [], ◌∷◌, ◌++◌, Contains, slice_get, Some}
use Rattle.silage_syntax.specs.Tree.{Item, equation, call, loop, initial, Items, no_item, item}
use Rattle.silage_syntax.specs.Tree.{Top, table, function, Program}
use Rattle.name_rules.specs.TopNames.{top_names, IsFirstPlace}

-- the names of the functions that items call, in loops too
abbrev mutual
  pub called : Item → List (List ℕ)
  called (equation place value) = []
  called (call places func args at) = func ∷ []
  called (loop index lo hi items at) = all_called items
  called (initial place k value) = []

  pub all_called : Items → List (List ℕ)
  all_called no_item = []
  all_called (item x xs) = called x ++ all_called xs

abbrev pub called_by : Top → List (List ℕ)
called_by (table c) = []
called_by (function f) = all_called f.items

-- the function at position f calls the one at position g
pub record Calls (p : Program) (f g : ℕ) : Type 0 where
  pub caller : Top
  pub stands : slice_get p.tops f ≡ Some caller
  pub name : List ℕ
  pub calls : Contains (called_by caller) name
  pub callee : IsFirstPlace (top_names p) name g
