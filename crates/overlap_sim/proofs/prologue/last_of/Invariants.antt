use Rattle.std.proofs.Common.{◌≤◌, take}
use Rattle.overlap_sim.specs.Private.Stages.{AreUpTo}
use Rattle.overlap_sim.proofs.prologue.last_of.Given as goal

abbrev pub invariant-loop-staged : goal.invariant-loop-staged
invariant-loop-staged g l = AreUpTo l.last (take l.staged-index l.staged-items) × (l.least ≤ l.last)
