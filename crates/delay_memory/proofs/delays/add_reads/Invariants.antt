use Rattle.delay_memory.specs.Private.Delays.{AreReadsBefore}
use Rattle.delay_memory.proofs.delays.add_reads.Given as goal

abbrev pub invariant-loop-edge : goal.invariant-loop-edge
invariant-loop-edge l = AreReadsBefore l.graph l.hold l.c l.edge-index l.reads
