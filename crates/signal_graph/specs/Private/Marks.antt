-- Marks of nodes, which searches set: one for each node, by its number.
use Rattle.std.specs.Prelude.{ℕ, List, slice_index_or, Bool, false, if◌then◌else◌}

-- whether node v is marked
abbrev pub is_marked : List Bool → ℕ → Bool
is_marked marks v = slice_index_or marks v false

-- a node that is not marked counts
abbrev pub missing : Bool → ℕ
missing mark = if mark then 0 else 1
