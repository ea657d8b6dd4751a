use Rattle.std.proofs.Common.{◌≡◌, replicate}
use Rattle.plan_core.specs.ListSchedule.{no_slot}
use Rattle.list_schedule.proofs.placing.no_slots.Given as goal

abbrev pub invariant-loop : goal.invariant-loop
invariant-loop l = l.slots ≡ replicate l.counter no_slot
