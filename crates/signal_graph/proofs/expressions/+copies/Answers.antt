use Rattle.std.proofs.Common.{◌∙◌, ap, sym}
use Rattle.signal_graph.specs.Flat.{view_expr, calculation}
use Rattle.signal_graph.specs.Expressions.{view_exprs}
use Rattle.signal_graph.proofs.Rows.{view_Node}
use Rattle.signal_graph.proofs.expressions.+copies.Goals as goal

pub expr_copy-returns-in_ok-part_copies-in-Node : goal.expr_copy-returns-in_ok-part_copies-in-Node
expr_copy-returns-in_ok-part_copies-in-Node t c =
    let at = c.in-Node in
    c.calculation.ensures
    ∙ ap (calculation at.op at.fmt) (c.in_ok-part_copies-in-Node.ensures ∙ ap view_exprs c.deref.ensures.value)
    ∙ sym (ap view_expr at.is ∙ view_Node at.op at.fmt at.parts)
