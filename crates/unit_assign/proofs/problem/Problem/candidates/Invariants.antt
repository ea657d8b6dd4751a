use Rattle.std.proofs.Common.{◌↔◌, ℕ}
use Rattle.unit_assign.specs.Private.UnitSets.{Has}
use Rattle.unit_assign.specs.Private.Bindings.{IsLeft}
use Rattle.unit_assign.proofs.problem.Problem.candidates.Given as goal

abbrev pub invariant-loop-port : goal.invariant-loop-port
invariant-loop-port l =
    (u : ℕ) → Has l.left u
    ↔ IsLeft l.self.datapath.now l.self.lowered.now.nodes l.binding.units l.v l.port u
