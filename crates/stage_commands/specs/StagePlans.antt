-- Which plan over several stages the program of a source has over the datapath of a file, or why it has none.
use Rattle.std.specs.Prelude.{◌≡◌, ℕ, List}
use Rattle.datapath.specs.declared.types.Datapath.{Datapath}
use Rattle.desk_core.specs.View.{Name, View}
use Rattle.front_end.specs.GraphOf.{IsProgramGraph}
use Rattle.overlap_plan.specs.IsStagePlan.{IsStagePlan}
use Rattle.overlap_plan.specs.Faults.{IsStageFault}
use Rattle.overlap_plan.specs.declared.fault.StageFault.{StageFault}
use Rattle.overlap_plan.specs.declared.fault.StageFault.TheVariants.{Line, Unit as Unbound, Period, File, Memory}
use Rattle.overlap_plan.specs.declared.plan.StagePlan.{StagePlan}
use Rattle.plan_commands.specs.Plans.{IsPlannedOverBy, IsUnplannedBy}
use Rattle.plan_commands.specs.Refusals.{IsRefusal, IsRefusedBy, IsErrorOf}
use Rattle.planner.specs.declared.fault.PlanFault.{PlanFault}
use Rattle.planner.specs.declared.fault.PlanFault.TheVariants as plan
use Rattle.reg_alloc.specs.declared.fault.FileFault.TheVariants as file
use Rattle.signal_graph.specs.declared.graph.Graph.{Graph}
use Rattle.silage_syntax.specs.Tree.{Program}
use Rattle.statuses.specs.Faults.{of_plan}
use Rattle.statuses.specs.declared.status.Status.{Status}

-- the fault as one of a plan of one stage
abbrev pub plan_fault_of : StageFault → PlanFault
plan_fault_of (Line fault) = plan.Line fault
plan_fault_of (Unbound fault) = plan.Unit fault
plan_fault_of (Period node) = plan.Period node
plan_fault_of (File (file.Full unit port node)) = plan.FileFull unit port node
plan_fault_of (File file.Memory) = plan.Memory
plan_fault_of Memory = plan.Memory

-- and its status is that fault's
abbrev pub status_of_fault : StageFault → Status
status_of_fault fault = of_plan (plan_fault_of fault)

module _ (stages : ℕ) where
  -- the graph has the plan over the datapath
  abbrev pub IsStagePlanOf : Graph → Datapath → StagePlan → Type 0
  IsStagePlanOf g d plan = IsStagePlan g d stages plan

  -- the status tells why a graph has none: the first rule that finds no place, and in it the first node
  abbrev pub IsUnstaged : Status → Graph → Datapath → Type 0
  IsUnstaged status g d = (fault : StageFault) × IsStageFault g d stages fault × (status ≡ status_of_fault fault)

  -- the source has this program and no other, the file describes this datapath, and the program's graph has the plan
  abbrev pub IsStagedOver : (source datapath : List ℕ) → Program → Datapath → StagePlan → Type 0
  IsStagedOver = IsPlannedOverBy IsProgramGraph IsStagePlanOf

  -- the program of the source has a plan over the datapath of the file
  abbrev pub IsStageable : (source datapath : List ℕ) → Type 0
  IsStageable source datapath =
      (program : Program) × (d : Datapath) × (plan : StagePlan) × IsStagedOver source datapath program d plan

  -- what a status tells of a source that has no plan over a datapath: a fault comes only where nothing before it
  -- has one
  abbrev pub IsStageRefused : Status → (source datapath : List ℕ) → Type 0
  IsStageRefused = IsRefusedBy (IsUnplannedBy IsProgramGraph IsUnstaged)

  -- why `stages` ends before it prints anything, and `pipe` before it opens SAMPLES
  abbrev pub IsStageError : Name → Name → View → View → Status → Type 0
  IsStageError = IsErrorOf IsRefusal IsStageRefused
