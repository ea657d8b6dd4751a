use Rattle.std.proofs.Common.{◌∙◌, ap, arith}
use Rattle.signal_graph.specs.Flat.{view_expr, size, size_of_parts}
use Rattle.signal_graph.specs.Expressions.{view_exprs, operation_count}
use Rattle.signal_graph.specs.Expressions.{operation_count_of_parts}
use Rattle.signal_graph.proofs.Rows.{view_Node}
use Rattle.signal_graph.proofs.Sizes.{size_within, count_within}
use Rattle.signal_graph.proofs.expressions.+counts.Goals as goal

pub operation_count-operations_in-requires : goal.operation_count-operations_in-requires
operation_count-operations_in-requires t c =
    let is = ap view_expr c.in-Node.is ∙ view_Node c.in-Node.op c.in-Node.fmt c.in-Node.parts in
    let same = ap view_exprs c.deref.ensures.value in (
      omega (arith, c.decreases, ap size is, ap size_of_parts same),
      omega (arith, c.requires, ap operation_count is, ap operation_count_of_parts same),
    )

pub operation_count-overflow_add-result : goal.operation_count-overflow_add-result
operation_count-overflow_add-result t c =
    let is = ap view_expr c.in-Node.is ∙ view_Node c.in-Node.op c.in-Node.fmt c.in-Node.parts in
    let same = ap view_exprs c.deref.ensures.value in
    omega (
      arith,
      c.requires,
      ap operation_count is,
      ap operation_count_of_parts same,
      c.operations_in.ensures,
    )

pub operation_count-returns-in-Node : goal.operation_count-returns-in-Node
operation_count-returns-in-Node t c =
    let is = ap view_expr c.in-Node.is ∙ view_Node c.in-Node.op c.in-Node.fmt c.in-Node.parts in
    let same = ap view_exprs c.deref.ensures.value in
    omega (arith, ap operation_count is, ap operation_count_of_parts same, c.operations_in.ensures)

pub operations_in-operation_count-count-requires : goal.operations_in-operation_count-count-requires
operations_in-operation_count-count-requires t c =
    let parts = c.args.parts.now in
    let i = c.loop-part.part-index in
    let x = c.part-item.result in (
      omega (arith, c.decreases, size_within parts i x c.loop-part-test.true c.part-item.is),
      omega (arith, c.requires, count_within parts i x c.loop-part-test.true c.part-item.is),
    )
