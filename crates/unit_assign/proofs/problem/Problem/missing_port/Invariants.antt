use Rattle.std.proofs.Common.{ℕ, ◌<◌}
use Rattle.plan_core.specs.Refusals.{LacksConsumer}
use Rattle.unit_assign.proofs.problem.Problem.missing_port.Given as goal

abbrev pub invariant-loop-port : goal.invariant-loop-port
invariant-loop-port l =
    (q : ℕ) → q < l.port → LacksConsumer l.self.datapath.now l.self.lowered.now l.units l.v l.unit l.c q → ⊥
