use Rattle.cyclic_life.specs.Private.Placed.{AreReadsBefore}
use Rattle.cyclic_life.proofs.placement.Placement.push_reads.Given as goal

abbrev pub invariant-loop-port : goal.invariant-loop-port
invariant-loop-port l =
    AreReadsBefore l.self.datapath.now l.self.assigned.now l.self.schedule.now l.c l.port l.reads.items
