-- How the parts of a plan over several stages give it, or the status that tells why there is none.
use Rattle.std.proofs.Common.{◌≡◌, ◌⊎◌, refl, sym, ap, subst, inl, inr, ⊎_elim, ℕ, ◌≤◌, Result, Ok, Err}
use Rattle.std.specs.Prelude.{IfOk}
use Rattle.datapath.specs.Allowed.{IsDatapath}
use Rattle.datapath.specs.declared.types.Datapath.{Datapath}
use Rattle.delay_memory.specs.declared.fault.LineFault.TheVariants as line
use Rattle.desk_core.specs.View.{Name, Content, View}
use Rattle.desk_core.specs.Desk.{FaultsNeverFall, IsUnchanged}
use Rattle.loop_expand.specs.GraphFor.{IsGraphFor}
use Rattle.overlap_plan.specs.Faults.{IsStageFault}
use Rattle.overlap_plan.specs.IsStagePlan.{IsStagePlan}
use Rattle.overlap_plan.specs.StagePlanned.{IsStagePlanned}
use Rattle.overlap_plan.specs.StageText.{stage_text}
use Rattle.overlap_plan.specs.declared.fault.StageFault.{StageFault}
use Rattle.overlap_plan.specs.declared.fault.StageFault.TheVariants.{Line, Unit as Unbound, Period, File, Memory}
use Rattle.overlap_plan.specs.declared.plan.StagePlan.{StagePlan}
use Rattle.plan_commands.specs.Planning.{IsSourceIn, IsPathIn}
use Rattle.plan_commands.specs.Private.Scheduling.{IsMadeText}
use Rattle.plan_commands.specs.Refusals.{IsRefusal}
use Rattle.plan_commands.proofs.Errors.{error_still}
use Rattle.plan_commands.proofs.Scheduling.{print_reported}
use Rattle.plan_commands.proofs.Plans.{IsOfGraph, input_plan_by}
use Rattle.reg_alloc.specs.declared.fault.FileFault.TheVariants as file
use Rattle.signal_graph.specs.declared.graph.Graph.{Graph}
use Rattle.silage_syntax.specs.Tree.{Program}
use Rattle.silc_files.specs.declared.files.Input.{Input}
use Rattle.stage_commands.specs.Planning.{IsWithoutStagePlan, IsInputStagePlan, IsReadStagePlan}
use Rattle.stage_commands.specs.StagePlans.{IsStagePlanOf, IsUnstaged, IsStageRefused, IsStageError}
use Rattle.stage_commands.specs.StagePlans.{status_of_fault}
use Rattle.stage_commands.specs.Stages.{IsStagesTextOf, IsStagesAnswer}
use Rattle.stage_commands.specs.declared.planning.StagePlanned.{StagePlanned}
use Rattle.statuses.specs.declared.status.Ending.{Ending}
use Rattle.statuses.specs.declared.status.Status.{Status}
use Rattle.statuses.specs.declared.status.Status.TheVariants as status
use Rattle.unit_assign.specs.declared.fault.UnitFault.TheVariants as unit

-- the status of a fault tells why a graph has no plan
module _ (stages : ℕ) (g : Graph) (d : Datapath) where
  of_fault : (fault : StageFault) → IsStageFault g d stages fault → IsOfGraph (status_of_fault fault)
  of_fault (Line (line.NoRam v)) h = tt
  of_fault (Line (line.NoAcu ram v)) h = tt
  of_fault (Line (line.LinesFull v)) h = tt
  of_fault (Line line.Memory) h = absurd h
  of_fault (Unbound (unit.TooWide v)) h = tt
  of_fault (Unbound (unit.NoUnit kind v)) h = tt
  of_fault (Unbound (unit.NoRoute u port v)) h = tt
  of_fault (Unbound unit.Memory) h = absurd h.none
  of_fault (Period v) h = tt
  of_fault (File (file.Full u port v)) h = tt
  of_fault (File file.Memory) h = absurd h.none
  of_fault Memory h = absurd h

  pub of_stages : (status : Status) → IsUnstaged stages status g d → IsOfGraph status
  of_stages status (fault, is, same) = subst IsOfGraph (sym same) (of_fault fault is)

  -- the status of the fault that was found
  pub fault_status : (fault : StageFault)
      → (fault ≡ Memory) ⊎ IsStageFault g d stages fault
      → IsWithoutStagePlan stages g d (status_of_fault fault)
  fault_status fault = ⊎_elim (λ memory. inl (ap status_of_fault memory)) (λ is. inr (fault, is, refl))

-- the plan of the graph is that of the inputs
pub input_stage_plan : (stages : ℕ) (source datapath : Input) (program : Program) (g : Graph)
    → IsSourceIn source program g
    → IsGraphFor program g
    → (d : Datapath)
    → IsPathIn datapath d
    → IsDatapath d
    → (r : Result StagePlanned Ending)
    → IfOk r (λ (planned : StagePlanned). planned.path ≡ d)
    → IfOk r (λ (planned : StagePlanned). IsStagePlan g d stages planned.plan)
    → IfOk r (IsInputStagePlan stages source datapath)
input_stage_plan stages source datapath program g has keeps d is_path allowed (Ok planned) same plan =
    input_plan_by (IsStagePlanOf stages) source datapath program g has keeps d is_path allowed planned.path
    planned.plan same plan
input_stage_plan stages source datapath program g has keeps d is_path allowed (Err e) same plan = tt

-- a plan over as many stages as it says
pub its_stages : (stages : ℕ) (g : Graph) (d : Datapath) (plan : StagePlan)
    → IsStagePlan g d stages plan
    → IsStagePlan g d plan.stages plan
its_stages stages g d plan is = subst (λ n. IsStagePlan g d n plan) (sym is.stages_are) is

module _ (stages : ℕ) (bounds : (1 ≤ stages) × (stages ≤ 4)) (src datapath : Name) (old new : View)
    (planned : StagePlanned) (plan : IsReadStagePlan stages src datapath old new planned) where
  some : 1 ≤ planned.plan.stages
  some = subst (λ n. 1 ≤ n) (sym plan.plan.stages_are) bounds.0

  few : planned.plan.stages ≤ 4
  few = subst (λ n. n ≤ 4) (sym plan.plan.stages_are) bounds.1

  -- the plan is one that is shown and made into an image
  pub is_planned : IsStagePlanned planned.path planned.plan
  is_planned = record {
    graph = plan.graph;
    sound = plan.keeps.sound;
    some = some;
    few = few;
    plan = its_stages stages plan.graph planned.path planned.plan plan.plan;
  }

  -- its text is that of the files
  pub made_text : (text : Content)
      → text ≡ stage_text planned.path planned.plan
      → IsMadeText (IsStagesTextOf stages src datapath) datapath old new text
  made_text text is = record {
    read = plan.read;
    is_text = λ files at. record {
      program = plan.program;
      path = planned.path;
      plan = planned.plan;
      planned = plan.specified files at;
      text_is = is;
    };
  }

-- why there is no plan is why `stages` ends
pub no_text : (stages : ℕ) (src datapath : Name) (old new : View) (status : Status)
    → IsStageError stages src datapath old new status
    → IsStagesAnswer stages src datapath old new status
no_text stages src datapath old new status.Done h =
    ⊎_elim (λ memory. absurd (let e = memory.0 in cc))
    (⊎_elim (λ desk. absurd (let e = desk.0 in cc)) (λ refused. absurd refused.0)) h
no_text stages src datapath old new status.Desk h = inl h
no_text stages src datapath old new error h = h

-- a report of the error leaves the answer of `stages` as it is
pub stages_reported : (stages : ℕ) (src datapath : Name) (old mid new : View)
    → IsUnchanged mid new
    → FaultsNeverFall mid new
    → FaultsNeverFall old mid
    → (status : Status)
    → IsStagesAnswer stages src datapath old mid status
    → IsStagesAnswer stages src datapath old new status
stages_reported stages src datapath old mid new same later before =
    print_reported (IsStagesTextOf stages src datapath) (IsStageError stages src datapath) datapath old mid new same
    later before
    (error_still IsRefusal (IsStageRefused stages) src datapath old mid new same later before)
