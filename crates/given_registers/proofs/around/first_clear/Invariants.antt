use Rattle.std.proofs.Common.{ℕ, ◌<◌}
use Rattle.given_registers.specs.Private.Allotting.{IsClear}
use Rattle.given_registers.proofs.around.first_clear.Given as goal

abbrev pub invariant-loop-register : goal.invariant-loop-register
invariant-loop-register l =
    (q : ℕ)
    → q < l.register
    → IsClear l.circle.period l.circle.samples l.arcs l.allotted l.k l.copy q
    → ⊥
