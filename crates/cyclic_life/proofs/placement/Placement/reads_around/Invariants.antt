use Rattle.cyclic_life.specs.Private.Placed.{AreAroundUpTo}
use Rattle.cyclic_life.proofs.placement.Placement.reads_around.Given as goal

abbrev pub invariant-loop-k : goal.invariant-loop-k
invariant-loop-k l =
    AreAroundUpTo l.self.datapath.now l.self.assigned.now l.self.schedule.now l.k l.initial.reads.items l.reads.items
