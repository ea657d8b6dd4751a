use Rattle.std.proofs.Common.{◌↔◌, ℕ, ◌<◌}
use Rattle.plan_core.specs.Assigned.{IsRightUnit}
use Rattle.unit_assign.specs.Private.UnitSets.{Has}
use Rattle.unit_assign.proofs.problem.Problem.right_for_ram.Given as goal

abbrev pub invariant-loop-number : goal.invariant-loop-number
invariant-loop-number l = (u : ℕ) → Has l.right u ↔ ((u < l.number) × IsRightUnit l.self.datapath.now l.node u)
