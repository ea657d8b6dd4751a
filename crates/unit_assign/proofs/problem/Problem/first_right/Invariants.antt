use Rattle.std.proofs.Common.{ℕ, ◌<◌}
use Rattle.plan_core.specs.Operands.{node_of}
use Rattle.plan_core.specs.Assigned.{IsRightUnit}
use Rattle.unit_assign.proofs.problem.Problem.first_right.Given as goal

abbrev pub invariant-loop-number : goal.invariant-loop-number
invariant-loop-number l =
    (u : ℕ) → u < l.number → IsRightUnit l.self.datapath.now (node_of l.self.lowered.now.nodes l.v) u → ⊥
