use Rattle.std.proofs.Common.{◌↔◌, ℕ}
use Rattle.unit_assign.specs.Private.UnitSets.{Has}
use Rattle.unit_assign.specs.Private.Drivers.{Among}
use Rattle.unit_assign.proofs.drivers.bus_drivers.Given as goal

abbrev pub invariant-loop-unit : goal.invariant-loop-unit
invariant-loop-unit l = (u : ℕ) → Has l.drivers u ↔ Among l.unit-items l.unit-index u
