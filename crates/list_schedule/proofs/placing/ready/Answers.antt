use Rattle.std.proofs.Common.{◌≡◌, ◌+◌, ◌<◌, arith, ap, sym, subst, length, max}
use Rattle.std.specs.Prelude.{slice_index_or}
use Rattle.std.proofs.lemmas.List.{get_or_read}
use Rattle.plan_core.specs.Operands.{no_edge}
use Rattle.plan_core.specs.Heights.{latency_of}
use Rattle.plan_core.specs.ListSchedule.{no_slot}
use Rattle.plan_core.specs.declared.schedule.Slot.{Slot}
use Rattle.list_schedule.specs.Placing.{slot_at}
use Rattle.schedule_priority.proofs.Problems.{read_now, not_now, operand_in, short}
use Rattle.schedule_priority.proofs.Greater.{greater}
use Rattle.list_schedule.proofs.Placings.{IsReadyUpTo, ready_more, ready_past}
use Rattle.list_schedule.proofs.placing.ready.Goals as goal
use Rattle.list_schedule.proofs.placing.ready.Goals.{then-edge-eq0, else-edge-eq0}

pub loop-edge-preserved : goal.loop-edge-preserved
loop-edge-preserved c =
    let d = c.args.problem.now.datapath.now in
    let a = c.args.problem.now.assigned.now in
    let is = c.requires.problem in
    let slots = c.args.slots.now in
    let items = c.deref-edge-items.result.now in
    let k = c.loop-edge.edge-index in
    let x = (slice_index_or items k no_edge).node in
    let less : k < length items = omega arith in
    elim c.if-edge-eq0.branch [
      | then-edge-eq0 w ↦
          let reads = read_now a.lowered.nodes c.args.v k c.node.result.now items c.node.ensures
          c.deref-edge-items.ensures less w.if-edge-eq0.true in
          let there = operand_in d a is c.args.v k x reads.reads in
          let count = c.requires.count in
          let slot = ap (λ (s : Slot). s.cycle)
          (get_or_read slots x w.index.result.now (omega arith) w.index.ensures no_slot) in
          let greatest = greater c.loop-edge.ready (w.index.result.now.cycle + w.from.result) in
          let to : c.if-edge-eq0.ready ≡ max c.loop-edge.ready ((slot_at slots x).cycle + latency_of d a x) =
          omega (arith, w.ready-is, w.max-ready.ensures, w.from.ensures, w.latency.ensures.latency) in
          ready_more d a slots c.args.v k c.loop-edge.ready c.loop-edge.invariant x c.if-edge-eq0.ready reads to
          (c.requires.early x) (short d a is x)
      | else-edge-eq0 w ↦
          subst (IsReadyUpTo d a slots c.args.v (k + 1)) (sym w.ready-is)
          (ready_past d a slots c.args.v k c.loop-edge.ready c.loop-edge.invariant
          (not_now a.lowered.nodes c.args.v k c.node.result.now items c.node.ensures c.deref-edge-items.ensures
          w.if-edge-eq0.false))
    ]
