-- The fault of a graph in which a node has no unit.
use Rattle.datapath.specs.declared.types.Datapath.{Datapath}
use Rattle.plan_core.specs.Hardware.{port_of}
use Rattle.plan_core.specs.Refusals.{IsTooWide, IsWithoutUnit, IsWithoutRoute}
use Rattle.plan_core.specs.declared.delay_lines.Lowered.{Lowered}
use Rattle.unit_assign.specs.declared.fault.UnitFault.{UnitFault}
use Rattle.unit_assign.specs.declared.fault.UnitFault.TheVariants.{TooWide, NoUnit, NoRoute, Memory}

-- The fault is that of the first node without a unit, as the refusals of plans say. To be out of memory is none.
abbrev pub IsUnitFault : Datapath → Lowered → UnitFault → Type 0
IsUnitFault d l (TooWide v) = IsTooWide d l v
IsUnitFault d l (NoUnit kind v) = IsWithoutUnit d l kind v
IsUnitFault d l (NoRoute unit port v) = IsWithoutRoute d l (port_of unit port) v
IsUnitFault d l Memory = ⊥
