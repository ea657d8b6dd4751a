use Rattle.delay_memory.specs.Private.Delays.{AreRisenBefore}
use Rattle.delay_memory.proofs.delays.delays_of.Given as goal

abbrev pub invariant-loop-v : goal.invariant-loop-v
invariant-loop-v l = AreRisenBefore l.graph l.hold l.v l.reads l.delays
