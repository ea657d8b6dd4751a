use Rattle.std.proofs.Common.{ℕ, ◌<◌}
use Rattle.plan_core.specs.Arcs.{arc_of}
use Rattle.given_registers.specs.Around.{given_at, IsForCopy}
use Rattle.given_registers.proofs.check.given_for.Given as goal

abbrev pub invariant-loop-n : goal.invariant-loop-n
invariant-loop-n l = (m : ℕ) → m < l.n → IsForCopy (given_at l.given m) (arc_of l.arcs l.k) l.copy → ⊥
