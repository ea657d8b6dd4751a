use Rattle.std.proofs.Common.{◌≡◌, ℕ, drop}
use Rattle.silage_syntax.specs.Manifests.{index_value}
use Rattle.loop_expand.specs.Private.Turns.{view_columns, row_at, indices_at}
use Rattle.loop_expand.proofs.values.index_values.Given as goal

abbrev pub invariant-loop-column : goal.invariant-loop-column
invariant-loop-column l =
    (k : ℕ)
    → index_value (row_at (view_columns (drop l.column-index l.column-items)) k) l.name
    ≡ index_value (indices_at l.turns k) l.name
