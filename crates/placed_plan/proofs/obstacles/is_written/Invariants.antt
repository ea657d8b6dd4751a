use Rattle.std.proofs.Common.{◌≡◌, ◌≢◌, ℕ, ◌<◌, All}
use Rattle.plan_core.specs.Assigned.{unit_in}
use Rattle.plan_core.specs.Reservations.{result_on}
use Rattle.schedule_priority.specs.Order.{nth}
use Rattle.list_schedule.specs.Placing.{slot_at}
use Rattle.placed_plan.proofs.obstacles.is_written.Given as goal

abbrev pub invariant-loop-x : goal.invariant-loop-x
invariant-loop-x l =
    (j : ℕ)
    → j < l.x-index
    → result_on l.problem.datapath.now (unit_in l.problem.assigned.now.units (nth l.placed j))
    (slot_at l.slots (nth l.placed j)).cycle ≡ l.cycle
    → All (λ transfer. transfer.port ≢ l.port) (slot_at l.slots (nth l.placed j)).transfers
