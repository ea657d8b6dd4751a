use Rattle.std.proofs.Common.{take}
use Rattle.overlap_sim.specs.Private.Stages.{AllUpTo}
use Rattle.overlap_sim.proofs.prologue.last_stage.Given as goal

abbrev pub invariant-loop-word : goal.invariant-loop-word
invariant-loop-word l = AllUpTo l.last (take l.word-index l.word-items)
