-- When each status comes of `stages SRC DP S`, and what it prints.
use Rattle.std.specs.Prelude.{◌≡◌, ℕ, List}
use Rattle.datapath.specs.declared.types.Datapath.{Datapath}
use Rattle.desk_core.specs.View.{Name, Content, Files, View}
use Rattle.desk_core.specs.Desk.{content_of}
use Rattle.overlap_plan.specs.StageText.{stage_text}
use Rattle.overlap_plan.specs.declared.plan.StagePlan.{StagePlan}
use Rattle.plan_commands.specs.Schedule.{IsPrintedOf, IsPrintAnswerOf}
use Rattle.silage_syntax.specs.Tree.{Program}
use Rattle.stage_commands.specs.StagePlans.{IsStagedOver, IsStageError}
use Rattle.statuses.specs.declared.status.Status.{Status}

-- the text is that of the plan over so many stages that the source's program has over the datapath
pub record IsStagesText (stages : ℕ) (source datapath text : List ℕ) : Type 0 where
  pub program : Program
  pub path : Datapath
  pub plan : StagePlan
  pub planned : IsStagedOver stages source datapath program path plan
  pub text_is : text ≡ stage_text path plan

abbrev pub IsStagesTextOf : (stages : ℕ) → Name → Name → Content → Files → Type 0
IsStagesTextOf stages src datapath text files =
    IsStagesText stages (content_of (files src)) (content_of (files datapath)) text

-- the text of the plan was printed, after both inputs were read through
abbrev pub IsStagesPrinted : (stages : ℕ) → Name → Name → View → View → Type 0
IsStagesPrinted stages src datapath = IsPrintedOf (IsStagesTextOf stages src datapath) datapath

-- when each status comes
abbrev pub IsStagesAnswer : (stages : ℕ) → Name → Name → View → View → Status → Type 0
IsStagesAnswer stages src datapath =
    IsPrintAnswerOf (IsStagesTextOf stages src datapath) (IsStageError stages src datapath) datapath
