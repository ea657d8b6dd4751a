-- What `run SRC DP SAMPLES OUT` compiles and runs, when each of its statuses comes, and what it leaves.
use Rattle.std.specs.Prelude.{◌≡◌, ◌⊎◌, ℕ, List}
use Rattle.lists.specs.Rows.{Rows}
use Rattle.datapath.specs.declared.types.Datapath.{Datapath}
use Rattle.cycle_sim.specs.Machine.{Snapshot}
use Rattle.desk_core.specs.View.{Name, Files, View}
use Rattle.desk_core.specs.Desk.{WhereSpecified, content_of}
use Rattle.desk_core.specs.Whole.{IsUnchangedButInput}
use Rattle.micro_image.specs.declared.image.Image.{Image}
use Rattle.plan_core.specs.declared.plan.Plan.{Plan}
use Rattle.plan_soundness.specs.ImageOf.{IsImageOf}
use Rattle.silage_syntax.specs.Tree.{Program}
use Rattle.silc_files.specs.Limits.{text_limit}
use Rattle.sample_loops.specs.declared.stream.StreamFault.{StreamFault}
use Rattle.sample_loops.specs.declared.stream.StreamFault.TheVariants as stream
use Rattle.sample_commands.specs.Eval.{IsSolutionRows, IsEvalDone, program_channels}
use Rattle.plan_commands.specs.Plans.{IsPlannedOver}
use Rattle.plan_commands.specs.Refusals.{IsRefusal, IsRefused, IsErrorOf}
use Rattle.sample_commands.specs.Samples.{AreUnopened, IsEndedEarly}
use Rattle.sample_commands.specs.Sim.{HasRun}
use Rattle.statuses.specs.declared.status.SampleFault.TheVariants as sample_fault
use Rattle.statuses.specs.declared.status.Status.{Status}
use Rattle.statuses.specs.declared.status.Status.TheVariants as status

-- A run of a source that is planned over a datapath, by any planning: `IsPlanned` says which plan the program of a
-- source has over a datapath.
module _ {P : Type 0} (IsPlanned : (source datapath : List ℕ) → Program → Datapath → P → Type 0) (src datapath : Name)
  where
    -- SRC has the program, which has the plan over DP's datapath
    abbrev pub HasPlanInBy : Program → Datapath → P → Files → Type 0
    HasPlanInBy program d plan files = IsPlanned (content_of (files src)) (content_of (files datapath)) program d plan

    -- SRC's program has a plan over DP's datapath
    abbrev pub HasSomePlanBy : Files → Type 0
    HasSomePlanBy files = (program : Program) × (d : Datapath) × (plan : P) × HasPlanInBy program d plan files

    -- SRC's program has a plan over DP's datapath, and SAMPLES could not be opened. At most the input and the
    -- faults changed.
    pub record AreSamplesUnreadBy (samples : Name) (old new : View) : Type 0 where
      pub unchanged : IsUnchangedButInput old new
      pub unopened : AreUnopened samples datapath text_limit HasSomePlanBy old new

    -- SRC's program has a plan over DP's datapath, and the run over SAMPLES, which was opened, did not come to its end.
    -- What OUT has is of the rows before; `gives` says which rows the program puts over rows.
    pub record IsRunStoppedBy (gives : Program → (stream puts : Rows) → Type 0) (samples out : Name) (old new : View)
        (fault : StreamFault) : Type 0 where
      pub program : Program
      pub path : Datapath
      pub plan : P
      pub planned : WhereSpecified old (HasPlanInBy program path plan)
      pub ended :
          IsEndedEarly samples out (program_channels program) (gives program) (λ rows conflict. ⊥) old new fault

    -- Why a run ends before it opens SAMPLES: the source is refused; `Tells` says what a status tells of a source and a
    -- datapath. Or SAMPLES could not be opened.
    abbrev pub IsNotRunBy : (Tells : Status → (source datapath : List ℕ) → Type 0)
        → Name
        → View
        → View
        → Status
        → Type 0
    IsNotRunBy Tells samples old new status.Desk =
        IsErrorOf IsRefusal Tells src datapath old new status.Desk ⊎ AreSamplesUnreadBy samples old new
    IsNotRunBy Tells samples old new error = IsErrorOf IsRefusal Tells src datapath old new error

    -- When each status comes where a run is not done. What the source is planned to meets no conflict.
    abbrev pub IsRunErrorBy : (Tells : Status → (source datapath : List ℕ) → Type 0)
        → (gives : Program → (stream puts : Rows) → Type 0)
        → (samples out : Name)
        → View
        → View
        → Status
        → Type 0
    IsRunErrorBy Tells gives samples out old new status.Desk =
        IsNotRunBy Tells samples old new status.Desk ⊎ IsRunStoppedBy gives samples out old new stream.Desk
    IsRunErrorBy Tells gives samples out old new (status.Samples (sample_fault.Row line at)) =
        IsRunStoppedBy gives samples out old new (stream.Row (record { line = line; at = at }))
    IsRunErrorBy Tells gives samples out old new (status.Samples sample_fault.TooLong) =
        IsRunStoppedBy gives samples out old new stream.TooLong
    IsRunErrorBy Tells gives samples out old new status.Done = ⊥
    IsRunErrorBy Tells gives samples out old new (status.Image fault) = ⊥
    IsRunErrorBy Tells gives samples out old new (status.Conflict conflict) = ⊥
    IsRunErrorBy Tells gives samples out old new error = IsNotRunBy Tells samples old new error

-- so they are where the plan is that of `compile`
abbrev pub HasPlanIn : Name → Name → Program → Datapath → Plan → Files → Type 0
HasPlanIn = HasPlanInBy IsPlannedOver

abbrev pub HasSomePlan : Name → Name → Files → Type 0
HasSomePlan = HasSomePlanBy IsPlannedOver

abbrev pub AreSamplesUnread : Name → Name → Name → View → View → Type 0
AreSamplesUnread = AreSamplesUnreadBy IsPlannedOver

-- why `run` ends before it opens SAMPLES
abbrev pub IsNotRun : Name → Name → Name → View → View → Status → Type 0
IsNotRun src datapath = IsNotRunBy IsPlannedOver src datapath IsRefused

-- why it ends after: what OUT has is of the program's one solution over the rows before
abbrev pub IsRunStopped : Name → Name → (samples out : Name) → View → View → StreamFault → Type 0
IsRunStopped src datapath = IsRunStoppedBy IsPlannedOver src datapath IsSolutionRows

-- OUT has what `eval` writes, the output rows of the one solution of SRC's program over the stream of SAMPLES. The
-- image of the program's plan over DP's datapath ran this stream to its end and put these rows; the machine is the one
-- that ran it.
pub record IsExecuted (src datapath samples out : Name) (machine : Snapshot) (old new : View) : Type 0 where
  pub solved : IsEvalDone src samples out old new
  pub path : Datapath
  pub plan : Plan
  pub planned : WhereSpecified old (HasPlanIn src datapath solved.program path plan)
  pub image : Image
  pub image_of : IsImageOf path plan image
  pub ran : HasRun image solved.stream machine solved.text

-- When each status comes where `run` is not done. The microcode of a plan is an image, whose run meets no conflict.
abbrev pub IsRunError : Name → Name → (samples out : Name) → View → View → Status → Type 0
IsRunError src datapath = IsRunErrorBy IsPlannedOver src datapath IsRefused IsSolutionRows
