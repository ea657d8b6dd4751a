-- What is asked of the files, so that a command is done or memory runs out; what they have where it stops at its
-- samples; and how it ends then.
use Rattle.std.specs.Prelude.{◌≡◌, ◌⊎◌, ◌+◌, ℕ, List, [], Some}
use Rattle.lists.specs.Rows.{Rows}
use Rattle.demo_cascade.specs.Cascade.{cascade_source, cascade_datapath}
use Rattle.datapath.specs.declared.types.Datapath.{Datapath}
use Rattle.desk_core.specs.View.{Name, Content, Files, View}
use Rattle.desk_core.specs.Desk.{content_of}
use Rattle.frame_command.specs.FramePlans.{IsFrameable, IsFrameRefused}
use Rattle.source_faults.specs.Faults.{HasProgram}
use Rattle.net_command.specs.Net.{HasNetStream}
use Rattle.net_command.specs.Processors.{ProcPlan}
use Rattle.net_core.specs.declared.types.NetFile.{NetFile}
use Rattle.micro_image.specs.declared.conflict.Conflict.{Conflict as ConflictValue}
use Rattle.micro_image.specs.declared.image.Image.{Image}
use Rattle.micro_image.specs.Fields.{microprogram_of}
use Rattle.plan_commands.specs.Plans.{IsPlanOver, HasPlan, IsPlannable}
use Rattle.plan_commands.specs.Refusals.{IsRefused, AreTold}
use Rattle.silc_files.specs.Sources.{IsAcceptedSource}
use Rattle.plan_core.specs.declared.plan.Plan.{Plan}
use Rattle.plan_soundness.specs.ImageOf.{IsImageOf}
use Rattle.rate_unfold.specs.Frames.{Rates}
use Rattle.sample_commands.specs.Eval.{program_channels}
use Rattle.sample_commands.specs.Samples.{AreSamples}
use Rattle.sample_commands.specs.Sim.{HasImage, HasStream}
use Rattle.sample_loops.specs.Machines.{channels_of, IsClearOver, IsConflictInLast}
use Rattle.sample_loops.specs.declared.stream.StreamFault.{StreamFault}
use Rattle.silage_syntax.specs.Tree.{Program}
use Rattle.silc_files.specs.Limits.{samples_limit}
use Rattle.silc_laws.specs.Samples.{StopsRun, IsAlwaysClear, MeetsNone}
use Rattle.stage_commands.specs.StagePlans.{IsStagedOver, IsStageable, IsStageRefused}
use Rattle.statuses.specs.declared.status.SampleFault.{SampleFault}
use Rattle.statuses.specs.declared.status.Status.{Status}
use Rattle.statuses.specs.declared.status.Status.TheVariants.{Done, Memory, Samples, Conflict}

-- the desk specifies its files, and they are so
pub record Specifies (P : Files → Type 0) (desk : View) : Type 0 where
  pub files : Files
  pub specified : desk.files ≡ Some files
  pub so : P files

-- SRC's program has a plan over DP's datapath
abbrev pub ArePlannable : Name → Name → Files → Type 0
ArePlannable src datapath files = IsPlannable (content_of (files src)) (content_of (files datapath))

-- SRC's program has a plan over so many stages on DP's datapath
abbrev pub AreStageable : (stages : ℕ) → Name → Name → Files → Type 0
AreStageable stages src datapath files = IsStageable stages (content_of (files src)) (content_of (files datapath))

-- the source and the datapath in the files are refused over so many stages
abbrev pub AreStageRefused : (stages : ℕ) → Name → Name → Status → Files → Type 0
AreStageRefused stages = AreTold (IsStageRefused stages)

-- SRC's program has a plan over frames on DP's datapath
abbrev pub AreFrameable : Rates → Name → Name → Files → Type 0
AreFrameable r src datapath files = IsFrameable r (content_of (files src)) (content_of (files datapath))

-- the source and the datapath in the files are refused over frames
abbrev pub AreFrameRefused : Rates → Name → Name → Status → Files → Type 0
AreFrameRefused r = AreTold (IsFrameRefused r)

-- NET has a net that can be run into OUT, and SAMPLES a stream for it
abbrev pub HasSomeNetStream : Name → Name → Name → Files → Type 0
HasSomeNetStream joins samples out files =
    (file : NetFile)
    × (plans : List ProcPlan)
    × (stream : Rows)
    × HasNetStream joins samples out file plans stream files

-- SRC's program has this plan over DP's datapath
abbrev pub HavePlan : Name → Name → Datapath → Plan → Files → Type 0
HavePlan src datapath path plan files = HasPlan (content_of (files src)) (content_of (files datapath)) path plan

-- the file is microcode of the plan's image
abbrev pub HasImageOf : Name → Datapath → Plan → Files → Type 0
HasImageOf mic path plan files = (image : Image) × IsImageOf path plan image × HasImage mic files image

-- the cascade of so many sections is refused so
abbrev pub IsCascadeRefused : Status → ℕ → Type 0
IsCascadeRefused why sections = IsRefused why (cascade_source sections) (cascade_datapath sections)

-- SRC has a program
abbrev pub IsAccepted : Name → Files → Type 0
IsAccepted src files = IsAcceptedSource (content_of (files src))

-- MIC has an image, and SAMPLES a stream for it, over which its run meets no conflict
pub record HasClearStream (mic samples : Name) (files : Files) : Type 0 where
  pub image : Image
  pub stream : Rows
  pub has : HasStream mic samples image stream files
  pub clear : IsClearOver (microprogram_of image) [] stream

-- SRC has a program, and SAMPLES a stream for it
pub record HasProgramStream (src samples : Name) (files : Files) : Type 0 where
  pub program : Program
  pub read : HasProgram (content_of (files src)) program
  pub stream : Rows
  pub samples_are : AreSamples (program_channels program) (content_of (files samples)) stream

-- SRC's program has a plan over DP's datapath, and SAMPLES a stream for it. `IsPlanned` says which plan the program
-- of a source has over a datapath.
pub record HasPlannedStreamBy {P : Type 0}
    (IsPlanned : (source datapath : List ℕ) → Program → Datapath → P → Type 0) (src datapath samples : Name)
    (files : Files) : Type 0 where
  pub program : Program
  pub path : Datapath
  pub plan : P
  pub planned : IsPlanned (content_of (files src)) (content_of (files datapath)) program path plan
  pub stream : Rows
  pub samples_are : AreSamples (program_channels program) (content_of (files samples)) stream

-- so they have where the plan is that of `compile`, and where it is one over so many stages
abbrev pub HasPlannedStream : Name → Name → Name → Files → Type 0
HasPlannedStream = HasPlannedStreamBy IsPlanOver

abbrev pub HasStagedStream : (stages : ℕ) → Name → Name → Name → Files → Type 0
HasStagedStream stages = HasPlannedStreamBy (IsStagedOver stages)

-- MIC has an image, whose run over SAMPLES stops so
abbrev pub StopsSim : Name → Name → StreamFault → Files → Type 0
StopsSim mic samples fault files =
    (image : Image) × HasImage mic files image
    × StopsRun (samples_limit + 1) (channels_of image.inputs) (IsClearOver (microprogram_of image) [])
    (IsConflictInLast (microprogram_of image) []) (content_of (files samples)) fault

-- a run of the program over the bytes stops so; it meets no conflict
abbrev pub StopsProgram : Program → Content → StreamFault → Type 0
StopsProgram program bytes fault =
    StopsRun (samples_limit + 1) (program_channels program) IsAlwaysClear MeetsNone bytes fault

-- SRC has a program, whose evaluation over SAMPLES stops so
abbrev pub StopsEval : Name → Name → StreamFault → Files → Type 0
StopsEval src samples fault files =
    (program : Program) × HasProgram (content_of (files src)) program
    × StopsProgram program (content_of (files samples)) fault

-- SRC's program has a plan over DP's datapath, and its run over SAMPLES stops so
abbrev pub StopsPlannedBy : {P : Type 0}
    → (IsPlanned : (source datapath : List ℕ) → Program → Datapath → P → Type 0)
    → Name
    → Name
    → Name
    → StreamFault
    → Files
    → Type 0
StopsPlannedBy {P} IsPlanned src datapath samples fault files =
    (program : Program) × (path : Datapath) × (plan : P)
    × IsPlanned (content_of (files src)) (content_of (files datapath)) program path plan
    × StopsProgram program (content_of (files samples)) fault

-- so it is where the plan is that of `compile`, and where it is one over so many stages
abbrev pub StopsPlanned : Name → Name → Name → StreamFault → Files → Type 0
StopsPlanned = StopsPlannedBy IsPlanOver

abbrev pub StopsStaged : (stages : ℕ) → Name → Name → Name → StreamFault → Files → Type 0
StopsStaged stages = StopsPlannedBy (IsStagedOver stages)

-- the command answers this status, or memory ran out
abbrev pub IsThisOrMemory : Status → Status → Type 0
IsThisOrMemory expected status = (status ≡ expected) ⊎ (status ≡ Memory)

-- the command is done, or memory ran out
abbrev pub IsDoneOrMemory : Status → Type 0
IsDoneOrMemory status = IsThisOrMemory Done status

-- the command is done, or its samples are bad or too many, or memory ran out
abbrev pub IsEndedBySamples : Status → Type 0
IsEndedBySamples status = IsDoneOrMemory status ⊎ ((fault : SampleFault) × (status ≡ Samples fault))

-- so it ends, or by a conflict
abbrev pub IsEndedByRun : Status → Type 0
IsEndedByRun status = IsEndedBySamples status ⊎ ((conflict : ConflictValue) × (status ≡ Conflict conflict))
