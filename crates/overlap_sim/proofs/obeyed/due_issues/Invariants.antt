use Rattle.std.proofs.Common.{◌≡◌, take}
use Rattle.overlap_sim.specs.Guarded.{due}
use Rattle.overlap_sim.proofs.obeyed.due_issues.Given as goal

abbrev pub invariant-loop-staged : goal.invariant-loop-staged
invariant-loop-staged l = l.issues ≡ due l.sample (take l.staged-index l.staged-items)
