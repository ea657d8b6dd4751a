use Rattle.cyclic_life.specs.Private.Placed.{AreReadsBefore}
use Rattle.cyclic_life.proofs.placement.Placement.reads.Given as goal

abbrev pub invariant-loop-c : goal.invariant-loop-c
invariant-loop-c l =
    AreReadsBefore l.self.datapath.now l.self.assigned.now l.self.schedule.now l.c 0 l.reads.items
