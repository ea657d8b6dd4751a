use Rattle.schedule_priority.specs.Private.Heights.{height_in, RaisesOperands}
use Rattle.schedule_priority.proofs.heights.raise_operands.Given as goal

abbrev pub invariant-loop-edge : goal.invariant-loop-edge
invariant-loop-edge l =
    RaisesOperands l.problem.datapath.now l.problem.assigned.now l.v l.edge-index (height_in l.fn.heights l.v)
    l.fn.heights l.heights
