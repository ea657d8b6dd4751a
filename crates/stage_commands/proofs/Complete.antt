-- Where a source has a plan over so many stages on a datapath, no refusal is due, so `stages` is done, memory runs out,
-- or faults rise.
use Rattle.std.proofs.Common.{◌≡◌, ◌⊎◌, ℕ, Some}
use Rattle.desk_core.specs.View.{Name, Content, Files, View}
use Rattle.desk_core.specs.Desk.{ReadFaultsRose, PrintFaultsRose, content_of}
use Rattle.front_end.proofs.SoundGraph.{program_graph_sound, program_graph_loopless}
use Rattle.overlap_plan.proofs.OneOutcome.{plan_or_not}
use Rattle.plan_commands.proofs.Complete.{path_allowed, error_memory, print_complete}
use Rattle.plan_commands.proofs.PlanAnswers.{refusal_by}
use Rattle.plan_commands.specs.Refusals.{IsRefusal}
use Rattle.stage_commands.specs.StagePlans.{IsStageable, IsStageRefused, IsStageError, IsUnstaged}
use Rattle.stage_commands.specs.Stages.{IsStagesTextOf, IsStagesAnswer}
use Rattle.statuses.specs.declared.status.Status.{Status}
use Rattle.statuses.specs.declared.status.Status.TheVariants.{Done, Memory}

-- a source that has a plan is not refused
pub never_stage_refused : (stages : ℕ) (s d : Content)
    → IsStageable stages s d
    → (why : Status)
    → IsRefusal why
    → IsStageRefused stages why s d
    → ⊥
never_stage_refused stages s d (program, at, plan, planned) why is h =
    let over = planned.has in
    let (fault, is_fault, same) =
    refusal_by s d program over.read over.graph over.graph_of at over.described (IsUnstaged stages) why is h in
    plan_or_not over.graph at stages (path_allowed d at over.described)
    (program_graph_sound s program over.read over.graph over.graph_of)
    (program_graph_loopless s program over.read over.graph over.graph_of) plan over.planned fault is_fault

module _ (stages : ℕ) (src datapath : Name) (old new : View) (files : Files)
    (told : old.files ≡ Some files)
    (has : IsStageable stages (content_of (files src)) (content_of (files datapath)))
    (no_src : ReadFaultsRose src old new → ⊥) (no_datapath : ReadFaultsRose datapath old new → ⊥) where
  never : (why : Status)
      → IsRefusal why
      → IsStageRefused stages why (content_of (files src)) (content_of (files datapath))
      → ⊥
  never = never_stage_refused stages (content_of (files src)) (content_of (files datapath)) has

  pub stage_memory : (error : Status) → IsStageError stages src datapath old new error → error ≡ Memory
  stage_memory = error_memory (IsStageRefused stages) src datapath old new files told never no_src no_datapath

  pub stages_complete : (PrintFaultsRose old new → ⊥)
      → (answer : Status)
      → IsStagesAnswer stages src datapath old new answer
      → (answer ≡ Done) ⊎ (answer ≡ Memory)
  stages_complete =
      print_complete (IsStageRefused stages) src datapath old new files told never no_src no_datapath
      (IsStagesTextOf stages src datapath)
