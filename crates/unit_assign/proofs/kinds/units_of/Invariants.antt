use Rattle.std.proofs.Common.{◌↔◌, ℕ, ◌<◌}
use Rattle.plan_core.specs.Hardware.{IsOfKind}
use Rattle.unit_assign.specs.Private.UnitSets.{Has}
use Rattle.unit_assign.proofs.kinds.units_of.Given as goal

abbrev pub invariant-loop-number : goal.invariant-loop-number
invariant-loop-number l = (u : ℕ) → Has l.units u ↔ ((u < l.number) × IsOfKind l.datapath l.kind u)
