use Rattle.std.proofs.Common.{◌+◌, sym, subst, take, map, replicate, length, false, arith, List, Bool, ℕ}
use Rattle.std.proofs.lemmas.List.{with_items_is}
use Rattle.signal_graph.specs.Flat.{view_elem, view_body}
use Rattle.signal_graph.specs.GraphOf.{are_delayed, body_delays}
use Rattle.flow_graph.specs.Private.Delayed.{Marks}
use Rattle.flow_graph.proofs.DelayMarks.{marks_then, marks_from, elems_delay_more}
use Rattle.flow_graph.proofs.delays.delayed_elements.Goals as goal

pub loop-element-preserved : goal.loop-element-preserved
loop-element-preserved c =
    let start = replicate (length c.args.flat.now.elems) false in
    let marked =
    marks_from c.deref_mut.result.now c.loop-element.delayed.items c.mark_body_reads.new.delayed
    (λ (e : ℕ). body_delays e (view_body c.element-item.result.body)) c.deref_mut.ensures.value
    c.mark_body_reads.ensures in
    let size = marked.size in
    let all =
    marks_then start c.loop-element.delayed.items c.mark_body_reads.new.delayed (λ (e : ℕ).
    are_delayed e (map view_elem (take c.loop-element.element-index c.as_slice-element-items.result.now)))
    (λ (e : ℕ). body_delays e (view_body c.element-item.result.body)) (λ (e : ℕ).
    are_delayed e (map view_elem (take (c.loop-element.element-index + 1) c.as_slice-element-items.result.now)))
    (λ e.
    elems_delay_more e c.as_slice-element-items.result.now c.loop-element.element-index c.element-item.result
    c.loop-element-test.true c.element-item.is) c.loop-element.invariant marked in
    subst (λ (xs : List Bool).
    Marks start (λ (e : ℕ).
    are_delayed e (map view_elem (take (c.loop-element.element-index + 1) c.as_slice-element-items.result.now)))
    xs)
    (sym (with_items_is c.loop-element.delayed c.mark_body_reads.new.delayed (omega arith))) all
