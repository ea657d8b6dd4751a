use Rattle.list_schedule.proofs.Placings.{IsReadyUpTo}
use Rattle.list_schedule.proofs.placing.ready.Given as goal

abbrev pub invariant-loop-edge : goal.invariant-loop-edge
invariant-loop-edge l =
    IsReadyUpTo l.problem.datapath.now l.problem.assigned.now l.slots l.v l.edge-index l.ready
