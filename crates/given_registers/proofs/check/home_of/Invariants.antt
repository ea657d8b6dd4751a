use Rattle.std.proofs.Common.{ℕ, ◌<◌}
use Rattle.given_registers.specs.Around.{IsFor}
use Rattle.given_registers.proofs.check.home_of.Given as goal

abbrev pub invariant-loop-k : goal.invariant-loop-k
invariant-loop-k l = (j i : ℕ) → j < l.k → IsFor l.arcs l.given j i → ⊥
