-- Rows of raw words that stand one behind the other in a list.
use Rattle.std.specs.Prelude.{◌≡◌, ℕ, ◌*◌, ◌/◌, ◌%◌, ◌<◌, List, length, map, take, drop, ℤ}
use Rattle.std.specs.List.{range_with_len}
use Rattle.lists.specs.Rows.{Rows}
use Rattle.net_solution.specs.declared.row_list.RowList.{RowList}

-- row n
abbrev pub row_in : RowList → ℕ → List ℤ
row_in list n = take list.width (drop (n * list.width) list.words)

-- how many rows there are
abbrev pub count_in : RowList → ℕ
count_in list = length list.words / list.width

abbrev pub rows_of : RowList → Rows
rows_of list = map (row_in list) (range_with_len 0 (count_in list))

-- whole rows, of some words each
pub record IsRowList (list : RowList) : Type 0 where
  pub width : 0 < list.width
  pub whole : length list.words % list.width ≡ 0
