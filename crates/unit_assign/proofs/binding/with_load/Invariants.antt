use Rattle.std.proofs.Common.{◌≡◌, ℕ}
use Rattle.unit_assign.specs.Private.Bindings.{load_in}
use Rattle.bit_sets.proofs.Passing.{IsFiltered}
use Rattle.unit_assign.proofs.binding.with_load.Given as goal

abbrev pub invariant-loop-unit : goal.invariant-loop-unit
invariant-loop-unit l = IsFiltered (λ (u : ℕ). load_in l.loads u ≡ l.load) l.fn.units.bits l.left.bits l.found.bits

abbrev pub decreases-loop-unit : goal.decreases-loop-unit
decreases-loop-unit l = l.left.bits
