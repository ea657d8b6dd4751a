-- Where a graph has no plan on a datapath.
use Rattle.std.specs.Prelude.{ℕ, List}
use Rattle.operations.specs.declared.units.PortRef.{PortRef}
use Rattle.datapath.specs.declared.types.Datapath.{Datapath}
use Rattle.signal_graph.specs.declared.graph.Graph.{Graph}
use Rattle.plan_core.specs.Hardware.{port_of}
use Rattle.plan_core.specs.Lowered.{IsLowered}
use Rattle.plan_core.specs.Assigned.{IsAssigned}
use Rattle.plan_core.specs.ListSchedule.{IsListSchedule}
use Rattle.plan_core.specs.Arcs.{IsArcs, IsUnroll}
use Rattle.plan_core.specs.Refusals.{IsWithoutCycle, IsWithoutRegister}
use Rattle.plan_core.specs.declared.delay_lines.Lowered.{Lowered}
use Rattle.plan_core.specs.declared.schedule.Assigned.{Assigned}
use Rattle.plan_core.specs.declared.schedule.Schedule.{Schedule}
use Rattle.plan_core.specs.declared.registers.Arc.{Arc}
use Rattle.delay_memory.specs.Faults.{IsLineFault}
use Rattle.unit_assign.specs.Faults.{IsUnitFault}
use Rattle.unit_assign.specs.declared.fault.UnitFault.{UnitFault}
use Rattle.planner.specs.declared.fault.PlanFault.{PlanFault}
use Rattle.planner.specs.declared.fault.PlanFault.TheVariants.{Line as Unstored, Unit as Unbound, Period, FileFull}
use Rattle.planner.specs.declared.fault.PlanFault.TheVariants.{Memory}

module _ (g : Graph) (d : Datapath) where
  -- a node of the lowered list has no unit
  pub record HasUnboundNode (fault : UnitFault) : Type 0 where
    pub lowered : Lowered
    pub is_lowered : IsLowered g d lowered
    pub none : IsUnitFault d lowered fault

  -- each node has its unit, and this one has no cycle
  pub record HasUnplacedNode (node : ℕ) : Type 0 where
    pub assigned : Assigned
    pub is_lowered : IsLowered g d assigned.lowered
    pub is_assigned : IsAssigned d assigned
    pub none : IsWithoutCycle d assigned node

  -- each node has its unit and its cycle, and a copy of a lifetime of this one has no register
  pub record HasUnkeptNode (port : PortRef) (node : ℕ) : Type 0 where
    pub assigned : Assigned
    pub is_lowered : IsLowered g d assigned.lowered
    pub is_assigned : IsAssigned d assigned
    pub schedule : Schedule
    pub is_schedule : IsListSchedule d assigned schedule
    pub arcs : List Arc
    pub are_arcs : IsArcs d assigned schedule arcs
    pub unroll : ℕ
    pub is_unroll : IsUnroll arcs unroll
    pub none : IsWithoutRegister d unroll arcs port node

  -- The fault is that of the first rule that finds no place, and in it of the first node. To be out of memory is none.
  abbrev pub IsPlanFault : PlanFault → Type 0
  IsPlanFault (Unstored fault) = IsLineFault g d fault
  IsPlanFault (Unbound fault) = HasUnboundNode fault
  IsPlanFault (Period node) = HasUnplacedNode node
  IsPlanFault (FileFull unit port node) = HasUnkeptNode (port_of unit port) node
  IsPlanFault Memory = ⊥
