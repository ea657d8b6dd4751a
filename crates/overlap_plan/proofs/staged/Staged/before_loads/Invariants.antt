use Rattle.std.proofs.Common.{ℕ, ◌≤◌, ◌<◌, ◌↔◌}
use Rattle.overlap_plan.specs.Staged.{IsEndUpTo}
use Rattle.overlap_plan.proofs.staged.Staged.before_loads.Given as goal

abbrev pub invariant-loop-x : goal.invariant-loop-x
invariant-loop-x l = IsEndUpTo l.self.problem.datapath.now l.self.problem.assigned.now l.slots l.v l.latest l.x l.end
