use Rattle.std.proofs.Common.{◌↔◌, ℕ, ◌<◌}
use Rattle.plan_core.specs.Hardware.{port_of, HasRoute}
use Rattle.unit_assign.specs.Private.UnitSets.{Has}
use Rattle.unit_assign.proofs.problem.Problem.own_takers.Given as goal

abbrev pub invariant-loop-number : goal.invariant-loop-number
invariant-loop-number l =
    (u : ℕ) → Has l.takers u ↔ ((u < l.number) × HasRoute l.self.datapath.now u (port_of u l.port))
