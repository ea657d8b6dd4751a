-- An operation reads with a delay what one of its parts does.
use Rattle.std.proofs.Common.{ap, sym, ◌∙◌, take}
use Rattle.signal_graph.specs.Flat.{view_expr}
use Rattle.signal_graph.specs.Expressions.{view_exprs}
use Rattle.signal_graph.specs.GraphOf.{delays, parts_delay}
use Rattle.signal_graph.proofs.Rows.{view_Node}
use Rattle.flow_graph.proofs.DelayMarks.{marks_then, marks_as, exprs_delay_more}
use Rattle.flow_graph.proofs.delays.+delays.Goals as goal

pub mark_part_reads-loop-part-preserved : goal.mark_part_reads-loop-part-preserved
mark_part_reads-loop-part-preserved t c =
    marks_then _ c.loop-part.delayed _ (λ e. parts_delay e (view_exprs (take c.loop-part.part-index c.args.parts.now)))
    (λ e. delays e (view_expr c.part-item.result)) _
    (λ e.
    exprs_delay_more e c.args.parts.now c.loop-part.part-index c.part-item.result c.loop-part-test.true
    c.part-item.is) c.loop-part.invariant c.mark_reads.ensures

pub mark_reads-returns-in-Node : goal.mark_reads-returns-in-Node
mark_reads-returns-in-Node t c =
    marks_as _ _ (λ e. parts_delay e (view_exprs c.deref.result.now)) (λ e. delays e (view_expr c.args.value.now))
    (λ e.
    ap (λ xs. parts_delay e (view_exprs xs)) c.deref.ensures.value
    ∙ sym (ap (delays e) (ap view_expr c.in-Node.is ∙ view_Node c.in-Node.op c.in-Node.fmt c.in-Node.parts)))
    c.mark_part_reads.ensures
