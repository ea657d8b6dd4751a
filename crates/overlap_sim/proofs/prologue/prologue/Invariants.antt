use Rattle.overlap_sim.specs.Private.Stages.{AreFirst}
use Rattle.overlap_sim.proofs.prologue.prologue.Given as goal

abbrev pub invariant-loop-cycle : goal.invariant-loop-cycle
invariant-loop-cycle l = AreFirst l.guarded l.cycle l.words
