use Rattle.bus_alloc.proofs.Around.{AreMarkedAround}
use Rattle.bus_alloc.proofs.cycles.CycleSet.insert_around.Given as goal

abbrev pub invariant-loop-away : goal.invariant-loop-away
invariant-loop-away l = AreMarkedAround l.period l.away l.cycle l.fn.self.words l.self.words
