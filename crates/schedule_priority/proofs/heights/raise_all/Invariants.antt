use Rattle.std.proofs.Common.{length}
use Rattle.schedule_priority.specs.Private.Heights.{IsRaising}
use Rattle.schedule_priority.proofs.heights.raise_all.Given as goal

abbrev pub invariant-loop-v : goal.invariant-loop-v
invariant-loop-v l = IsRaising l.problem.datapath.now l.problem.assigned.now l.order.items l.heights

abbrev pub decreases-loop-v : goal.decreases-loop-v
decreases-loop-v l = length l.order.items
