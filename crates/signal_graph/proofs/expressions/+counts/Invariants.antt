use Rattle.std.proofs.Common.{◌≡◌, ◌+◌, ◌*◌, drop}
use Rattle.signal_graph.specs.Flat.{view_expr, size, size_of_parts}
use Rattle.signal_graph.specs.Expressions.{view_exprs, operation_count_of_parts}
use Rattle.signal_graph.proofs.expressions.+counts.Given as goal

abbrev pub invariant-operations_in-loop-part : goal.invariant-operations_in-loop-part
invariant-operations_in-loop-part l =
    l.count + operation_count_of_parts (view_exprs (drop l.part-index l.parts))
    ≡ operation_count_of_parts (view_exprs l.parts)

abbrev pub decreases-operation_count : goal.decreases-operation_count
decreases-operation_count l = 2 * size (view_expr l.value.now)

abbrev pub decreases-operations_in : goal.decreases-operations_in
decreases-operations_in l = 2 * size_of_parts (view_exprs l.parts.now) + 1
