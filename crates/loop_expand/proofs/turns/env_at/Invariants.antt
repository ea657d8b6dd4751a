use Rattle.std.proofs.Common.{◌≡◌, ◌++◌, drop}
use Rattle.loop_expand.specs.Private.Turns.{view_columns, row_at, indices_at}
use Rattle.loop_expand.proofs.turns.env_at.Given as goal

abbrev pub invariant-loop-column : goal.invariant-loop-column
invariant-loop-column l =
    l.env.items ++ row_at (view_columns (drop l.column-index l.column-items)) l.k ≡ indices_at l.turns l.k
