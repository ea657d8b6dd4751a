use Rattle.std.proofs.Common.{ℕ, ◌<◌}
use Rattle.plan_core.specs.Refusals.{LacksConsumer}
use Rattle.unit_assign.proofs.problem.Problem.missing_consumer.Given as goal

abbrev pub invariant-loop-c : goal.invariant-loop-c
invariant-loop-c l =
    (b q : ℕ) → b < l.c → LacksConsumer l.self.datapath.now l.self.lowered.now l.units l.v l.unit b q → ⊥
