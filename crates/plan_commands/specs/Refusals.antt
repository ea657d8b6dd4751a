-- Why a source has no plan over a datapath: each status that `plan_of` answers, and with it `compile`, `schedule`
-- and `run`.
use Rattle.std.specs.Prelude.{◌≡◌, ◌⊎◌, ℕ, List}
use Rattle.datapath.specs.PathRules.{IsPathFault}
use Rattle.datapath.specs.declared.fault.PathFault.{PathFault}
use Rattle.datapath.specs.declared.fault.PathFault.TheVariants as path
use Rattle.desk_core.specs.View.{Name, Files, View}
use Rattle.desk_core.specs.Desk.{ReadFaultsRose, content_of}
use Rattle.desk_core.specs.Whole.{IsUnchangedButInput}
use Rattle.source_faults.specs.Faults.{IsFrontFault, IsOfSource}
use Rattle.silc_files.specs.Endings.{IsRejected}
use Rattle.silc_files.specs.Limits.{text_limit}
use Rattle.plan_commands.specs.Plans.{IsUnplannedOver}
use Rattle.silc_files.specs.Sources.{IsAcceptedSource}
use Rattle.statuses.specs.declared.status.Status.{Status}
use Rattle.statuses.specs.declared.status.Status.TheVariants.{Memory, Desk, FrontEnd, Path, Unit as Unbound}
use Rattle.statuses.specs.declared.status.Status.TheVariants.{LinesFull, Period, FileFull}

-- the fault is one of a datapath; want of memory is a status of its own
abbrev pub IsOfPath : PathFault → Type 0
IsOfPath path.Memory = ⊥
IsOfPath fault = Unit {0}

-- the status tells why a source has no plan over a datapath
abbrev pub IsRefusal : Status → Type 0
IsRefusal (FrontEnd fault) = IsOfSource fault
IsRefusal (Path fault) = IsOfPath fault
IsRefusal (Unbound refusal) = Unit {0}
IsRefusal (LinesFull node) = Unit {0}
IsRefusal (Period node) = Unit {0}
IsRefusal (FileFull unit port node) = Unit {0}
IsRefusal _ = ⊥

-- What a status tells: a fault comes only where nothing before it has one. `IsUnplannedSo` says what tells why the
-- program of the source has no plan over the datapath of the file.
abbrev pub IsRefusedBy : (IsUnplannedSo : Status → (source datapath : List ℕ) → Type 0)
    → Status
    → (source datapath : List ℕ)
    → Type 0
IsRefusedBy IsUnplannedSo (FrontEnd fault) source datapath = IsFrontFault source fault
IsRefusedBy IsUnplannedSo (Path fault) source datapath = IsAcceptedSource source × IsPathFault datapath fault
IsRefusedBy IsUnplannedSo status source datapath = IsUnplannedSo status source datapath

-- so it is where the plan is that of `compile`
abbrev pub IsRefused : Status → (source datapath : List ℕ) → Type 0
IsRefused = IsRefusedBy IsUnplannedOver

-- why `plan_of` gives no plan
abbrev pub IsNoPlan : (source datapath : List ℕ) → Status → Type 0
IsNoPlan source datapath status = (status ≡ Memory) ⊎ (IsRefusal status × IsRefused status source datapath)

-- the status tells this of the source and the datapath in the files
abbrev pub AreTold : (Tells : Status → (source datapath : List ℕ) → Type 0) → Name → Name → Status → Files → Type 0
AreTold Tells src datapath status files = Tells status (content_of (files src)) (content_of (files datapath))

-- the source and the datapath in the files are refused
abbrev pub AreRefused : Name → Name → Status → Files → Type 0
AreRefused = AreTold IsRefused

-- the source or the datapath could not be read; at most the input and the faults changed
pub record IsUnread (src datapath : Name) (old new : View) : Type 0 where
  pub unchanged : IsUnchangedButInput old new
  pub rose : ReadFaultsRose src old new ⊎ ReadFaultsRose datapath old new

-- Why a planning of SRC over DP ends before it makes or prints anything: there was no memory, an input could not be
-- read, or the files are refused. Both inputs are read through before either is judged. `IsWhy` says which statuses
-- tell that the files are refused, and `Tells` what each tells of the two.
abbrev pub IsErrorOf : (IsWhy : Status → Type 0)
    → (Tells : Status → (source datapath : List ℕ) → Type 0)
    → Name
    → Name
    → View
    → View
    → Status
    → Type 0
IsErrorOf IsWhy Tells src datapath old new status =
    ((status ≡ Memory) × IsUnchangedButInput old new)
    ⊎ ((status ≡ Desk) × IsUnread src datapath old new)
    ⊎ (IsWhy status × IsRejected datapath text_limit (AreTold Tells src datapath status) old new)

-- why `compile` or `schedule` ends before it makes or prints anything, and `run` before it opens SAMPLES
abbrev pub IsPlanError : Name → Name → View → View → Status → Type 0
IsPlanError = IsErrorOf IsRefusal IsRefused
