use Rattle.std.proofs.Common.{ℕ, ◌<◌}
use Rattle.place_file.specs.Given.{IsUnitNamed}
use Rattle.place_file.proofs.entry.unit_named.Given as goal

abbrev pub invariant-loop-number : goal.invariant-loop-number
invariant-loop-number l = (u : ℕ) → u < l.number → IsUnitNamed l.datapath l.name u → ⊥
