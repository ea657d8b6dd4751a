-- The plan over several stages that `stages` and `pipe` make of their inputs.
use Rattle.std.specs.Prelude.{ℕ}
use Rattle.datapath.specs.declared.types.Datapath.{Datapath}
use Rattle.desk_core.specs.View.{Name, View}
use Rattle.plan_commands.specs.Planning.{IsInputPlanBy, IsNoInputPlanOf, IsReadPlanBy, IsWithoutPlanBy}
use Rattle.plan_commands.specs.Refusals.{IsRefusal}
use Rattle.signal_graph.specs.declared.graph.Graph.{Graph}
use Rattle.silc_files.specs.declared.files.Input.{Input}
use Rattle.stage_commands.specs.StagePlans.{IsStagePlanOf, IsUnstaged, IsStageRefused}
use Rattle.stage_commands.specs.declared.planning.StagePlanned.{StagePlanned}
use Rattle.statuses.specs.declared.status.Status.{Status}

module _ (stages : ℕ) where
  -- why a graph has no plan over the datapath
  abbrev pub IsWithoutStagePlan : Graph → Datapath → Status → Type 0
  IsWithoutStagePlan = IsWithoutPlanBy (IsUnstaged stages)

  -- the plan of the program of the one input, over the datapath of the other
  abbrev pub IsInputStagePlan : Input → Input → StagePlanned → Type 0
  IsInputStagePlan source datapath planned =
      IsInputPlanBy (IsStagePlanOf stages) source datapath planned.path planned.plan

  -- why the inputs have none
  abbrev pub IsNoInputStagePlan : Input → Input → Status → Type 0
  IsNoInputStagePlan = IsNoInputPlanOf IsRefusal (IsStageRefused stages)

  -- the plan of the program of SRC over the datapath of DP, which were read through
  abbrev pub IsReadStagePlan : Name → Name → View → View → StagePlanned → Type 0
  IsReadStagePlan src datapath old new planned =
      IsReadPlanBy (IsStagePlanOf stages) src datapath old new planned.path planned.plan
