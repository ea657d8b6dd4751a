-- When each status comes of `compile SRC DP OUT`, and of any command that writes microcode of its files, and what
-- it leaves.
use Rattle.desk_core.specs.View.{Name, Content, Files, View}
use Rattle.desk_core.specs.Desk.{IfSpecified, WhereSpecified, IsPut, content_of}
use Rattle.std.specs.Prelude.{◌⊎◌}
use Rattle.silc_files.specs.Endings.{IsNotWritten, IsFinished}
use Rattle.plan_commands.specs.Headline.{CarriesTheSolution, IsCompiled}
use Rattle.silc_files.specs.Limits.{text_limit}
use Rattle.plan_commands.specs.Refusals.{IsPlanError}
use Rattle.statuses.specs.declared.status.Status.{Status}
use Rattle.statuses.specs.declared.status.Status.TheVariants.{Done, Desk}

-- the microcode is compiled from the source and the datapath in the files
abbrev pub AreCompiled : Name → Name → Content → Files → Type 0
AreCompiled src datapath microcode files = IsCompiled (content_of (files src)) (content_of (files datapath)) microcode

-- the microcode carries the solution of the source in the files, in the period of their datapath
abbrev pub AreCarried : Name → Name → Content → Files → Type 0
AreCarried src datapath microcode files =
    CarriesTheSolution (content_of (files src)) (content_of (files datapath)) microcode

-- OUT has microcode of the files, and every other file is as it was. `IsOf` says which microcode files have.
pub record IsDoneOf (IsOf : Content → Files → Type 0) (out : Name) (before after : Files) : Type 0 where
  pub microcode : Content
  pub compiled : IsOf microcode before
  pub put : IsPut out microcode before after

-- Microcode was made of the files as they were at the start, after the inputs up to this last one were read through.
-- OUT has it, was closed, and every other file is as it was.
pub record IsWrittenOf (IsOf : Content → Files → Type 0) (last out : Name) (old new : View) : Type 0 where
  pub finished : IsFinished last text_limit old new
  pub microcode : Content
  pub compiled : WhereSpecified old (IsOf microcode)
  pub put : IfSpecified (IsPut out microcode) old.files new.files

-- writing OUT failed, after microcode was made
pub record IsWriteCutShortOf (IsOf : Content → Files → Type 0) (last out : Name) (old new : View) : Type 0 where
  pub microcode : Content
  pub compiled : WhereSpecified old (IsOf microcode)
  pub written : IsNotWritten last text_limit out microcode old new

-- when each status comes where microcode is written; `IsError` says why a status comes before
abbrev pub IsWriteAnswerOf : (IsOf : Content → Files → Type 0)
    → (IsError : View → View → Status → Type 0)
    → (last out : Name)
    → View
    → View
    → Status
    → Type 0
IsWriteAnswerOf IsOf IsError last out old new Done = IsWrittenOf IsOf last out old new
IsWriteAnswerOf IsOf IsError last out old new Desk = IsError old new Desk ⊎ IsWriteCutShortOf IsOf last out old new
IsWriteAnswerOf IsOf IsError last out old new error = IsError old new error

-- OUT has microcode that carries the solution of the source, and every other file is as it was
abbrev pub HasTheSolution : (src datapath out : Name) → (before after : Files) → Type 0
HasTheSolution src datapath = IsDoneOf (AreCarried src datapath)

-- OUT has microcode compiled from the source and the datapath, and every other file is as it was
abbrev pub IsDone : (src datapath out : Name) → (before after : Files) → Type 0
IsDone src datapath = IsDoneOf (AreCompiled src datapath)

-- microcode was compiled from the source and the datapath as the files were at the start, and OUT has it
abbrev pub IsCompileDone : (src datapath out : Name) → (old new : View) → Type 0
IsCompileDone src datapath = IsWrittenOf (AreCompiled src datapath) datapath

-- writing OUT failed, after microcode was compiled
abbrev pub IsCutShort : (src datapath out : Name) → (old new : View) → Type 0
IsCutShort src datapath = IsWriteCutShortOf (AreCompiled src datapath) datapath

-- when each status comes
abbrev pub IsAnswer : (src datapath out : Name) → View → View → Status → Type 0
IsAnswer src datapath = IsWriteAnswerOf (AreCompiled src datapath) (IsPlanError src datapath) datapath
