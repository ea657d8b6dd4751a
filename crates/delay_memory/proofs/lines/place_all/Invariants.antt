use Rattle.delay_memory.specs.Private.Lines.{AreLinesBefore}
use Rattle.delay_memory.proofs.lines.place_all.Given as goal

abbrev pub invariant-loop-v : goal.invariant-loop-v
invariant-loop-v l = AreLinesBefore l.target.spare l.target.datapath.now l.delays l.v l.memory
