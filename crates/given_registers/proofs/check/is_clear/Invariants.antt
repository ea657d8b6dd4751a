use Rattle.std.proofs.Common.{ℕ, ◌<◌}
use Rattle.given_registers.specs.Private.Allotting.{allotted_at, Leaves}
use Rattle.given_registers.proofs.check.is_clear.Given as goal

abbrev pub invariant-loop-t : goal.invariant-loop-t
invariant-loop-t l =
    (s : ℕ)
    → s < l.t
    → Leaves l.circle.period l.circle.samples l.arcs (allotted_at l.allotted s) l.k l.copy l.register
