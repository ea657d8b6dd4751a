use Rattle.std.proofs.Common.{◌≡◌, ◌++◌, drop}
use Rattle.loop_expand.specs.Private.Turns.{view_columns, inner_columns}
use Rattle.loop_expand.proofs.turns.columns_of.Given as goal

abbrev pub invariant-loop-column : goal.invariant-loop-column
invariant-loop-column l =
    view_columns l.columns.items ++ inner_columns (view_columns (drop l.column-index l.outer)) l.index l.inner
    ≡ inner_columns (view_columns l.outer) l.index l.inner
