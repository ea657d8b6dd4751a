-- When each status comes of `schedule SRC DP`, and what it prints.
use Rattle.std.specs.Prelude.{◌≡◌, ◌⊎◌, ℕ, List}
use Rattle.datapath.specs.declared.types.Datapath.{Datapath}
use Rattle.desk_core.specs.View.{Name, Content, Files, View}
use Rattle.desk_core.specs.Desk.{IfSpecified, WhereSpecified, PrintFaultsRose, content_of}
use Rattle.desk_core.specs.Whole.{IsReadThrough}
use Rattle.plan_core.specs.declared.plan.Plan.{Plan}
use Rattle.microcode_asm.specs.ScheduleText.{schedule_text}
use Rattle.silc_files.specs.Limits.{text_limit}
use Rattle.silc_files.specs.Printing.{IsPrintedMore, IsPrintedInPart}
use Rattle.plan_commands.specs.Plans.{HasOnlyPlan}
use Rattle.plan_commands.specs.Refusals.{IsPlanError}
use Rattle.statuses.specs.declared.status.Status.{Status}
use Rattle.statuses.specs.declared.status.Status.TheVariants.{Done, Desk}

-- the text is that of the plan that the source's program has over the datapath
pub record IsPlanText (source datapath text : List ℕ) : Type 0 where
  pub path : Datapath
  pub plan : Plan
  pub planned : HasOnlyPlan source datapath path plan
  pub text_is : text ≡ schedule_text path plan

abbrev pub IsTextOf : Name → Name → Content → Files → Type 0
IsTextOf src datapath text files = IsPlanText (content_of (files src)) (content_of (files datapath)) text

-- A text of the files was printed, after the inputs up to this last one were read through. `IsOf` says which text the
-- files have.
pub record IsPrintedOf (IsOf : Content → Files → Type 0) (last : Name) (old new : View) : Type 0 where
  pub read : IsReadThrough last text_limit old new
  pub text : Content
  pub is_text : WhereSpecified old (IsOf text)
  pub printed : IfSpecified (IsPrintedMore text) old.printed new.printed

-- printing the text failed, after a prefix of it
pub record IsPrintCutShortOf (IsOf : Content → Files → Type 0) (last : Name) (old new : View) : Type 0 where
  pub rose : PrintFaultsRose old new
  pub read : IsReadThrough last text_limit old new
  pub text : Content
  pub is_text : WhereSpecified old (IsOf text)
  pub printed : IfSpecified (IsPrintedInPart text) old.printed new.printed

-- when each status comes where a text is printed; `IsError` says why a status comes before
abbrev pub IsPrintAnswerOf : (IsOf : Content → Files → Type 0)
    → (IsError : View → View → Status → Type 0)
    → (last : Name)
    → View
    → View
    → Status
    → Type 0
IsPrintAnswerOf IsOf IsError last old new Done = IsPrintedOf IsOf last old new
IsPrintAnswerOf IsOf IsError last old new Desk = IsError old new Desk ⊎ IsPrintCutShortOf IsOf last old new
IsPrintAnswerOf IsOf IsError last old new error = IsError old new error

-- the text of the plan was printed, after both inputs were read through
abbrev pub IsScheduled : Name → Name → View → View → Type 0
IsScheduled src datapath = IsPrintedOf (IsTextOf src datapath) datapath

-- printing the text failed, after a prefix of it
abbrev pub IsPrintCutShort : Name → Name → View → View → Type 0
IsPrintCutShort src datapath = IsPrintCutShortOf (IsTextOf src datapath) datapath

-- when each status comes
abbrev pub IsScheduleAnswer : Name → Name → View → View → Status → Type 0
IsScheduleAnswer src datapath = IsPrintAnswerOf (IsTextOf src datapath) (IsPlanError src datapath) datapath
