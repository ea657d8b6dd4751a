use Rattle.std.proofs.Common.{◌≡◌, ◌+◌, ◌<◌, arith, sym, subst, ℕ, length}
use Rattle.std.specs.Prelude.{slice_index_or}
use Rattle.std.proofs.lemmas.List.{get_or_read}
use Rattle.plan_core.specs.Operands.{no_edge}
use Rattle.plan_core.specs.Heights.{latency_of}
use Rattle.schedule_priority.specs.Private.Heights.{height_in, RaisesTo, RaisesOperands}
use Rattle.schedule_priority.proofs.Problems.{read_now, not_now}
use Rattle.schedule_priority.proofs.Raising.{raised_more, raised_past}
use Rattle.schedule_priority.proofs.heights.raise_operands.Goals as goal
use Rattle.schedule_priority.proofs.heights.raise_operands.Goals.{then-edge-eq0, else-edge-eq0}

pub loop-edge-preserved : goal.loop-edge-preserved
loop-edge-preserved c =
    let d = c.args.problem.now.datapath.now in
    let a = c.args.problem.now.assigned.now in
    let items = c.deref-edge-items.result.now in
    let k = c.loop-edge.edge-index in
    let x = (slice_index_or items k no_edge).node in
    let first = c.args.heights.now in
    let height = height_in first c.args.v in
    let less : k < length items = omega arith in
    let read = get_or_read first c.args.v c.index-height.result.now (omega arith) c.index-height.ensures 0 in
    elim c.if-edge-eq0.branch [
      | then-edge-eq0 w ↦
          let reads = read_now a.lowered.nodes c.args.v k c.node.result.now items c.node.ensures
          c.deref-edge-items.ensures less w.if-edge-eq0.true in
          let to : c.index-height.result.now + w.from.result ≡ height + latency_of d a x =
          omega (arith, w.from.ensures, w.latency.ensures.latency) in
          subst (RaisesOperands d a c.args.v (k + 1) height first) (sym w.heights-is)
          (raised_more d a c.args.v height first k c.loop-edge.heights c.loop-edge.invariant x w.raise.new.heights reads
          (subst (λ (t : ℕ). RaisesTo x t c.loop-edge.heights w.raise.new.heights) to w.raise.ensures))
      | else-edge-eq0 w ↦
          subst (RaisesOperands d a c.args.v (k + 1) height first) (sym w.heights-is)
          (raised_past d a c.args.v height first k c.loop-edge.heights c.loop-edge.invariant
          (not_now a.lowered.nodes c.args.v k c.node.result.now items c.node.ensures c.deref-edge-items.ensures
          w.if-edge-eq0.false))
    ]
