-- The processors of a net by their files: the plan of each, or the first refusal.
use Rattle.std.specs.Prelude.{◌⊎◌, ℕ, List, [], ◌∷◌, map}
use Rattle.std.specs.List.{AllZip, flat_map}
use Rattle.datapath.specs.declared.types.Datapath.{Datapath}
use Rattle.desk_core.specs.View.{Name, Files}
use Rattle.desk_core.specs.Desk.{content_of}
use Rattle.micro_image.specs.declared.image.Image.{Image}
use Rattle.net_command.specs.Ports.{program_ports}
use Rattle.net_core.specs.declared.types.NetProc.{NetProc}
use Rattle.net_fit.specs.declared.ports.Ports.{Ports}
use Rattle.plan_commands.specs.Plans.{IsPlannedOver, IsPlannable}
use Rattle.plan_commands.specs.Refusals.{IsRefused}
use Rattle.plan_core.specs.declared.plan.Plan.{Plan}
use Rattle.plan_soundness.specs.ImageOf.{IsImageOf}
use Rattle.silage_syntax.specs.Tree.{Program}
use Rattle.statuses.specs.declared.status.Status.{Status}

-- the bytes of a processor's files
pub record ProcFiles : Type 0 where
  pub source : List ℕ
  pub datapath : List ℕ

-- what a processor is planned to
pub record ProcPlan : Type 0 where
  pub program : Program
  pub path : Datapath
  pub plan : Plan
  pub image : Image

-- the source has the program and no other, which has the plan over the file's datapath; the image is the plan's
pub record HasProcPlan (files : ProcFiles) (its : ProcPlan) : Type 0 where
  pub planned : IsPlannedOver files.source files.datapath its.program its.path its.plan
  pub image_of : IsImageOf its.path its.plan its.image

-- each has a plan, in order
abbrev pub HavePlans : List ProcFiles → List ProcPlan → Type 0
HavePlans = AllZip HasProcPlan

-- the status tells why the first that has no plan has none
abbrev pub IsFirstRefused : Status → List ProcFiles → Type 0
IsFirstRefused status [] = ⊥
IsFirstRefused status (one ∷ others) =
    IsRefused status one.source one.datapath
    ⊎ (IsPlannable one.source one.datapath × IsFirstRefused status others)

-- the bytes of the files of each processor
abbrev pub files_of : Files → List NetProc → List ProcFiles
files_of files procs =
    map (λ proc. record { source = content_of (files proc.src); datapath = content_of (files proc.dp) }) procs

-- the names of these files
abbrev pub names_of : List NetProc → List Name
names_of procs = flat_map (λ proc. proc.src ∷ proc.dp ∷ []) procs

abbrev pub programs_of : List ProcPlan → List Program
programs_of plans = map (λ its. its.program) plans

abbrev pub images_of : List ProcPlan → List Image
images_of plans = map (λ its. its.image) plans

-- the types of each program's words
abbrev pub ports_of : List ProcPlan → List Ports
ports_of plans = map (λ its. program_ports its.program) plans
