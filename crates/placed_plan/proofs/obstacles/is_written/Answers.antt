use Rattle.std.proofs.Common.{◌≡◌, ◌≢◌, ℕ, ◌<◌, ap, sym, subst, arith, length, All}
use Rattle.std.proofs.lemmas.List.{get_or_read}
use Rattle.plan_core.specs.Assigned.{unit_in}
use Rattle.plan_core.specs.Reservations.{result_on}
use Rattle.plan_core.specs.ListSchedule.{no_slot}
use Rattle.plan_core.specs.declared.schedule.Slot.{Slot}
use Rattle.plan_core.specs.declared.schedule.Transfer.{Transfer}
use Rattle.schedule_priority.specs.Order.{nth}
use Rattle.list_schedule.specs.Placing.{slot_at}
use Rattle.placed_plan.proofs.FirstObstacles.{up_to_more}
use Rattle.placed_plan.proofs.obstacles.is_written.Goals as goal
use Rattle.placed_plan.proofs.obstacles.is_written.Goals.{else-end-cycle-via-then-end-cycle+else-goes_to}
use Rattle.placed_plan.proofs.obstacles.is_written.Goals.{else-end-cycle-via-else-end-cycle}

pub returns-then-goes_to-clause-written : goal.returns-then-goes_to-clause-written
returns-then-goes_to-clause-written c =
    λ yes free.
    let port = c.args.port in
    let x = nth c.args.placed.now c.loop-x.x-index in
    let there : x < length c.args.slots.now =
    omega (arith, c.requires.count, c.requires.placed c.loop-x.x-index c.loop-x-test.true) in
    let slot = get_or_read c.args.slots.now x c.index-slot.result.now there c.index-slot.ensures no_slot in
    let cycle = ap (λ (s : Slot). s.cycle) slot in
    c.goes_to.ensures.to c.if-goes_to.true
    (subst (λ (s : Slot). All (λ (transfer : Transfer). transfer.port ≢ port) s.transfers) (sym slot)
    (free c.loop-x.x-index c.loop-x-test.true
    (omega (arith, cycle, c.from.ensures, c.latency.ensures.latency, c.latency.ensures.some, c.if-end-cycle.true))))

pub loop-x-preserved : goal.loop-x-preserved
loop-x-preserved c =
    let d = c.args.problem.now.datapath.now in
    let a = c.args.problem.now.assigned.now in
    let port = c.args.port in
    let x = nth c.args.placed.now c.loop-x.x-index in
    let there : x < length c.args.slots.now =
    omega (arith, c.requires.count, c.requires.placed c.loop-x.x-index c.loop-x-test.true) in
    let slot = get_or_read c.args.slots.now x c.index-slot.result.now there c.index-slot.ensures no_slot in
    let cycle = ap (λ (s : Slot). s.cycle) slot in
    up_to_more
    (λ (j : ℕ).
    result_on d (unit_in a.units (nth c.args.placed.now j)) (slot_at c.args.slots.now (nth c.args.placed.now j)).cycle
    ≡ c.args.cycle
    → All (λ (transfer : Transfer). transfer.port ≢ port)
    (slot_at c.args.slots.now (nth c.args.placed.now j)).transfers)
    c.loop-x.x-index c.loop-x.invariant
    (λ at.
    elim c.else-end-cycle.branch [
      | else-end-cycle-via-then-end-cycle+else-goes_to w ↦
          subst (λ (s : Slot). All (λ (transfer : Transfer). transfer.port ≢ port) s.transfers) slot
          (w.goes_to.ensures.none w.if-goes_to.false)
      | else-end-cycle-via-else-end-cycle w ↦
          absurd (w.if-end-cycle.false
          (omega (arith, at, cycle, c.from.ensures, c.latency.ensures.latency, c.latency.ensures.some)))
    ])
