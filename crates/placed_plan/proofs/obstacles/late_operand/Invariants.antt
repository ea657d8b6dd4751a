use Rattle.placed_plan.proofs.FirstObstacles.{AreThereUpTo}
use Rattle.placed_plan.proofs.obstacles.late_operand.Given as goal

abbrev pub invariant-loop-edge : goal.invariant-loop-edge
invariant-loop-edge l =
    AreThereUpTo l.problem.datapath.now l.problem.assigned.now l.slots l.v l.cycle l.edge-index
