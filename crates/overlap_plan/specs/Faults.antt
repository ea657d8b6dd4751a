-- Where a graph has no plan on a datapath over so many stages.
use Rattle.std.specs.Prelude.{ℕ, List}
use Rattle.datapath.specs.declared.types.Datapath.{Datapath}
use Rattle.signal_graph.specs.declared.graph.Graph.{Graph}
use Rattle.plan_core.specs.Lowered.{IsLoweredOver}
use Rattle.plan_core.specs.Assigned.{IsAssigned}
use Rattle.plan_core.specs.Stages.{IsStageSchedule, IsWithoutStage, AreStageArcs}
use Rattle.plan_core.specs.declared.delay_lines.Lowered.{Lowered}
use Rattle.plan_core.specs.declared.schedule.Assigned.{Assigned}
use Rattle.plan_core.specs.declared.schedule.Schedule.{Schedule}
use Rattle.plan_core.specs.declared.registers.Arc.{Arc}
use Rattle.delay_memory.specs.Faults.{IsLineFaultOver}
use Rattle.unit_assign.specs.Faults.{IsUnitFault}
use Rattle.unit_assign.specs.declared.fault.UnitFault.{UnitFault}
use Rattle.reg_alloc.specs.Faults.{IsFileFault}
use Rattle.reg_alloc.specs.declared.fault.FileFault.{FileFault}
use Rattle.overlap_plan.specs.declared.fault.StageFault.{StageFault}
use Rattle.overlap_plan.specs.declared.fault.StageFault.TheVariants.{Line as Unstored, Unit as Unbound, Period, File}
use Rattle.overlap_plan.specs.declared.fault.StageFault.TheVariants.{Memory}

module _ (g : Graph) (d : Datapath) (stages : ℕ) where
  -- a node of the lowered list has no unit
  pub record HasUnboundNode (fault : UnitFault) : Type 0 where
    pub lowered : Lowered
    pub is_lowered : IsLoweredOver 0 stages g d lowered
    pub none : IsUnitFault d lowered fault

  -- each node has its unit, and this one has no cycle
  pub record HasUnplacedNode (node : ℕ) : Type 0 where
    pub assigned : Assigned
    pub is_lowered : IsLoweredOver 0 stages g d assigned.lowered
    pub is_assigned : IsAssigned d assigned
    pub none : IsWithoutStage stages is_lowered.delays d assigned node

  -- each node has its unit and its cycle, and a copy of a lifetime has no register
  pub record HasUnkeptNode (fault : FileFault) : Type 0 where
    pub assigned : Assigned
    pub is_lowered : IsLoweredOver 0 stages g d assigned.lowered
    pub is_assigned : IsAssigned d assigned
    pub schedule : Schedule
    pub is_schedule : IsStageSchedule stages is_lowered.delays d assigned schedule
    pub arcs : List Arc
    pub are_arcs : AreStageArcs d assigned schedule arcs
    pub none : IsFileFault d arcs fault

  -- The fault is that of the first rule that finds no place, and in it of the first node. To be out of memory is none.
  abbrev pub IsStageFault : StageFault → Type 0
  IsStageFault (Unstored fault) = IsLineFaultOver 0 stages g d fault
  IsStageFault (Unbound fault) = HasUnboundNode fault
  IsStageFault (Period node) = HasUnplacedNode node
  IsStageFault (File fault) = HasUnkeptNode fault
  IsStageFault Memory = ⊥
