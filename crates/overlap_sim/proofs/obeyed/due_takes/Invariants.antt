use Rattle.std.proofs.Common.{◌≡◌, take}
use Rattle.overlap_sim.specs.Guarded.{due}
use Rattle.overlap_sim.proofs.obeyed.due_takes.Given as goal

abbrev pub invariant-loop-staged : goal.invariant-loop-staged
invariant-loop-staged l = l.takes ≡ due l.sample (take l.staged-index l.staged-items)
