-- When each status comes of `frame SRC DP M DOWN UP OUT`, and what it leaves.
use Rattle.std.specs.Prelude.{◌≡◌, ◌≤◌, ℕ, List, length}
use Rattle.lists.specs.Rows.{Rows}
use Rattle.datapath.specs.declared.types.Datapath.{Datapath}
use Rattle.desk_core.specs.View.{Name, Content, Files, View}
use Rattle.desk_core.specs.Desk.{content_of}
use Rattle.frame_command.specs.FrameGraphs.{AreFrames, rows_in, frames_out}
use Rattle.frame_command.specs.FramePlans.{IsFramedOver, IsFrameError}
use Rattle.micro_image.specs.Fields.{microprogram_of}
use Rattle.micro_image.specs.Run.{IsRunOut}
use Rattle.micro_image.specs.declared.image.Image.{Image}
use Rattle.plan_commands.specs.Compile.{IsWrittenOf, IsWriteAnswerOf, IsAnswer}
use Rattle.plan_commands.specs.Headline.{SpellsOnly}
use Rattle.plan_core.specs.declared.plan.Plan.{Plan}
use Rattle.plan_soundness.specs.ImageOf.{IsImageOf}
use Rattle.rate_unfold.specs.Frames.{Rates}
use Rattle.silage_meaning.specs.Solves.{IsOneSolution}
use Rattle.silage_meaning.specs.Value.{Words}
use Rattle.silage_syntax.specs.Tree.{Program}
use Rattle.silc_files.specs.Limits.{microcode_limit}
use Rattle.statuses.specs.declared.status.Status.{Status}
use Rattle.statuses.specs.declared.status.Status.TheVariants.{Frame}

module _ (r : Rates) where
  -- Over each stream of valid frames the program has exactly one solution over their rows, and the image, run over the
  -- frames without a conflict, puts exactly the frames of its output rows, each frame in the image's period of cycles.
  abbrev pub RunsTheFrames : Program → Image → Type 0
  RunsTheFrames program image =
      (frames : Rows) → AreFrames r program frames
      → (words : Words) × IsOneSolution program (rows_in r program frames) words
      × IsRunOut (microprogram_of image) frames (frames_out r program words (length frames))

  -- The program of the source has a plan over frames, on the datapath of the file. The microcode spells the image of
  -- that plan in version 2 and nothing else, and that image runs the program's one solution, each frame in the
  -- datapath's period.
  pub record IsFramed (source datapath microcode : List ℕ) : Type 0 where
    pub program : Program
    pub path : Datapath
    pub plan : Plan
    pub planned : IsFramedOver r source datapath program path plan
    pub image : Image
    pub image_of : IsImageOf path plan image
    pub spelled : SpellsOnly microcode image
    -- so that every command reads it
    pub short : length microcode ≤ microcode_limit
    pub runs : RunsTheFrames program image
    pub period : image.period ≡ path.period

  -- the microcode is that of the program over frames, from the source and the datapath in the files
  abbrev pub AreFramed : Name → Name → Content → Files → Type 0
  AreFramed src datapath microcode files = IsFramed (content_of (files src)) (content_of (files datapath)) microcode

  -- microcode was made over frames from the source and the datapath as the files were at the start, and OUT has it
  abbrev pub IsFrameDone : (src datapath out : Name) → View → View → Type 0
  IsFrameDone src datapath = IsWrittenOf (AreFramed src datapath) datapath

  -- when each status comes
  abbrev pub IsFrameAnswer : (src datapath out : Name) → View → View → Status → Type 0
  IsFrameAnswer src datapath = IsWriteAnswerOf (AreFramed src datapath) (IsFrameError r src datapath) datapath

-- the answer is one of `compile`, unless it tells a fault of frames
abbrev pub IsCompiledToo : (src datapath out : Name) → View → View → Status → Type 0
IsCompiledToo src datapath out old new (Frame fault) = Unit {0}
IsCompiledToo src datapath out old new status = IsAnswer src datapath out old new status
