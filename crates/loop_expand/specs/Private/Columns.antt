-- Columns of the indices of loops.
use Rattle.std.specs.Prelude.{◌≡◌, ℕ, List, length, slice_get, Some}
use Rattle.loop_expand.specs.declared.columns.Column.{Column}

-- each has a value in each of so many turns
abbrev pub AreFull : List Column → (count : ℕ) → Type 0
AreFull columns count = (i : ℕ) (c : Column) → slice_get columns i ≡ Some c → length c.values.items ≡ count
