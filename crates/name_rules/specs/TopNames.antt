-- The names of the tables and functions of a program in order, and the place of a name among them.
use Rattle.std.specs.Prelude.{◌≡◌, ℕ, ◌<◌, ◌≤◌, List, map, position, bytes_eq, slice_get}
use Rattle.std.specs.Prelude.{Some, unwrap_or}
use Rattle.silage_syntax.specs.Tree.{Top, table, function, Program}

-- the name of a table or function, and its source position
abbrev pub top_name : Top → List ℕ
top_name (table c) = c.name
top_name (function f) = f.name

abbrev pub top_at : Top → ℕ
top_at (table c) = c.at
top_at (function f) = f.at

abbrev pub top_names : Program → List (List ℕ)
top_names p = map top_name p.tops

-- where the first table or function with the name is among the tops
abbrev pub position_of : Program → List ℕ → ℕ
position_of p name = unwrap_or (position (bytes_eq name) (top_names p)) 0

-- k is the least place of the name in the list
pub record IsFirstPlace (names : List (List ℕ)) (name : List ℕ) (k : ℕ) : Type 0 where
  pub here : slice_get names k ≡ Some name
  pub least : (j : ℕ) → slice_get names j ≡ Some name → k ≤ j

-- the name at place k has an earlier place too
pub record IsDuplicate (names : List (List ℕ)) (k : ℕ) : Type 0 where
  pub name : List ℕ
  pub here : slice_get names k ≡ Some name
  pub earlier : ℕ
  pub before : earlier < k
  pub there : slice_get names earlier ≡ Some name
