use Rattle.delay_memory.specs.Private.Delays.{AreReadsBefore}
use Rattle.delay_memory.proofs.delays.all_reads.Given as goal

abbrev pub invariant-loop-c : goal.invariant-loop-c
invariant-loop-c l = AreReadsBefore l.graph l.hold l.c 0 l.reads
