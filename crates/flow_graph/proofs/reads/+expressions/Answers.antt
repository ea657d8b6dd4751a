-- An operation reads what its parts read, one after another.
use Rattle.std.proofs.Common.{◌++◌, ap, sym, ◌∙◌}
use Rattle.lists.proofs.Results.{on_ok}
use Rattle.signal_graph.specs.Flat.{view_expr}
use Rattle.signal_graph.specs.Expressions.{view_exprs}
use Rattle.flow_graph.specs.Private.ReadsNow.{reads_now, parts_read_now}
use Rattle.signal_graph.proofs.Rows.{view_Node}
use Rattle.flow_graph.proofs.Adding.{adds_none, adds_one, adds_all}
use Rattle.flow_graph.proofs.ReadLists.{row_reads}
use Rattle.flow_graph.proofs.reads.+expressions.Goals as goal

pub add_part_reads-loop-part-init : goal.add_part_reads-loop-part-init
add_part_reads-loop-part-init t c = adds_none _

pub add_part_reads-loop-part-preserved : goal.add_part_reads-loop-part-preserved
add_part_reads-loop-part-preserved t c =
    adds_one (λ x. reads_now (view_expr x)) _ _ _ _ _ _ c.loop-part-test.true c.part-item.is c.loop-part.invariant
    c.in_ok-add_reads.ensures

pub add_part_reads-returns : goal.add_part_reads-returns
add_part_reads-returns t c =
    adds_all (λ x. reads_now (view_expr x)) _ _ _ _ c.loop-part-test.false c.loop-part.invariant
    ∙ ap (λ xs. c.args.reads.now ++ xs) (sym (row_reads c.args.parts.now))

pub add_reads-returns-in-Node : goal.add_reads-returns-in-Node
add_reads-returns-in-Node t c =
    let whole =
    ap (λ x. reads_now (view_expr x)) c.in-Node.is
    ∙ ap reads_now (view_Node c.in-Node.op c.in-Node.fmt c.in-Node.parts) in
    let inner = ap (λ xs. parts_read_now (view_exprs xs)) c.deref.ensures.value in
    on_ok c.add_part_reads.result _ _ (λ h. h ∙ ap (λ xs. c.args.reads.now ++ xs) (inner ∙ sym whole))
    c.add_part_reads.ensures
