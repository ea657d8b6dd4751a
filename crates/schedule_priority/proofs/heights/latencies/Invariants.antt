use Rattle.schedule_priority.specs.Private.Heights.{AreAlone}
use Rattle.schedule_priority.proofs.heights.latencies.Given as goal

abbrev pub invariant-loop-v : goal.invariant-loop-v
invariant-loop-v l = AreAlone l.problem.datapath.now l.problem.assigned.now l.v l.heights
