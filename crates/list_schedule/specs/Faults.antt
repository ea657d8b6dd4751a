-- The fault of a graph in which a node has no cycle.
use Rattle.datapath.specs.declared.types.Datapath.{Datapath}
use Rattle.plan_core.specs.Refusals.{IsWithoutCycle}
use Rattle.plan_core.specs.declared.schedule.Assigned.{Assigned}
use Rattle.list_schedule.specs.declared.fault.PeriodFault.{PeriodFault}
use Rattle.list_schedule.specs.declared.fault.PeriodFault.TheVariants.{Period, Memory}

-- The fault is that of the first node without a cycle, as the refusals of plans say. To be out of memory is none.
abbrev pub IsPeriodFault : Datapath → Assigned → PeriodFault → Type 0
IsPeriodFault d a (Period v) = IsWithoutCycle d a v
IsPeriodFault d a Memory = ⊥
