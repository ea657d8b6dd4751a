-- The plan that `compile` and `schedule` make of their inputs.
use Rattle.std.specs.Prelude.{◌≡◌, ◌⊎◌, Result, Ok, Err}
use Rattle.desk_core.specs.View.{Name, Content, View}
use Rattle.desk_core.specs.Desk.{WhereSpecified, content_of}
use Rattle.desk_core.specs.Whole.{IsUnchangedButInput, IsReadThrough}
use Rattle.datapath.specs.Allowed.{IsDatapath}
use Rattle.datapath.specs.Described.{IsPathOf}
use Rattle.datapath.specs.PathRules.{IsPathFault}
use Rattle.datapath.specs.declared.types.Datapath.{Datapath}
use Rattle.signal_graph.specs.declared.graph.Graph.{Graph}
use Rattle.plan_core.specs.declared.plan.Plan.{Plan}
use Rattle.plan_core.specs.IsPlan.{IsPlan}
use Rattle.loop_expand.specs.GraphFor.{IsGraphFor}
use Rattle.silage_syntax.specs.Tree.{Program}
use Rattle.source_faults.specs.Faults.{HasProgram, IsFrontFault, IsOfSource}
use Rattle.front_end.specs.GraphOf.{IsProgramGraph}
use Rattle.silc_files.specs.Limits.{text_limit}
use Rattle.plan_commands.specs.Plans.{IsPlannedOverBy, IsUnplanned}
use Rattle.plan_commands.specs.Refusals.{IsOfPath, IsRefusal, IsRefused, IsUnread}
use Rattle.silc_files.specs.Reading.{IsInput}
use Rattle.silc_files.specs.declared.files.Input.{Input}
use Rattle.plan_commands.specs.declared.planning.Inputs.{Inputs}
use Rattle.plan_commands.specs.declared.planning.Planned.{Planned}
use Rattle.statuses.specs.declared.status.Status.{Status}
use Rattle.statuses.specs.declared.status.Status.TheVariants.{Memory, Desk, FrontEnd, Path}

-- the source has the program with this graph
pub record HasGraph (source : Content) (program : Program) (g : Graph) : Type 0 where
  pub read : HasProgram source program
  pub graph : IsProgramGraph program g

abbrev pub IsSourceIn : Input → Program → Graph → Type 0
IsSourceIn input program g = (s : Content) → IsInput s input → HasGraph s program g

-- why the input has no program
abbrev pub IsNoSource : Input → Status → Type 0
IsNoSource input Memory = Unit {0}
IsNoSource input (FrontEnd fault) = IsOfSource fault × ((s : Content) → IsInput s input → IsFrontFault s fault)
IsNoSource input _ = ⊥

-- the input describes the datapath
abbrev pub IsPathIn : Input → Datapath → Type 0
IsPathIn input path = (d : Content) → IsInput d input → IsPathOf d path

-- why the input describes none
abbrev pub IsNoPath : Input → Status → Type 0
IsNoPath input Memory = Unit {0}
IsNoPath input (Path fault) = IsOfPath fault × ((d : Content) → IsInput d input → IsPathFault d fault)
IsNoPath input _ = ⊥

-- why a graph has no plan over the datapath; `IsWhy` says which statuses tell that it has none
abbrev pub IsWithoutPlanBy : (IsWhy : Status → Graph → Datapath → Type 0) → Graph → Datapath → Status → Type 0
IsWithoutPlanBy IsWhy g d status = (status ≡ Memory) ⊎ IsWhy status g d

abbrev pub IsWithoutPlan : Graph → Datapath → Status → Type 0
IsWithoutPlan = IsWithoutPlanBy IsUnplanned

-- the plan that was found, where there was memory
abbrev pub FindsPlan : Plan → Result Plan Status → Type 0
FindsPlan plan (Ok found) = found ≡ plan
FindsPlan plan (Err status) = status ≡ Memory

-- the refusal that is told, where there was memory
abbrev pub TellsWhy : Status → Result Plan Status → Type 0
TellsWhy why (Ok found) = ⊥
TellsWhy why (Err status) = (status ≡ why) ⊎ (status ≡ Memory)

-- The plan of the program of the one input, over the datapath of the other. `IsPlanOf` says which plan a graph has over
-- a datapath.
pub record IsInputPlanBy {P : Type 0} (IsPlanOf : Graph → Datapath → P → Type 0) (source datapath : Input)
    (path : Datapath) (p : P) : Type 0 where
  pub program : Program
  pub graph : Graph
  pub source_is : IsSourceIn source program graph
  pub keeps : IsGraphFor program graph
  pub path_is : IsPathIn datapath path
  pub allowed : IsDatapath path
  pub plan : IsPlanOf graph path p

abbrev pub IsInputPlan : Input → Input → Planned → Type 0
IsInputPlan source datapath planned = IsInputPlanBy IsPlan source datapath planned.path planned.plan

-- Why the inputs have none: `IsWhy` says which statuses tell that they are refused, and `Tells` what each tells
-- of them.
abbrev pub IsNoInputPlanOf : (IsWhy : Status → Type 0)
    → (Tells : Status → Content → Content → Type 0)
    → Input
    → Input
    → Status
    → Type 0
IsNoInputPlanOf IsWhy Tells source datapath status =
    (status ≡ Memory)
    ⊎ (IsWhy status × ((s d : Content) → IsInput s source → IsInput d datapath → Tells status s d))

abbrev pub IsNoInputPlan : Input → Input → Status → Type 0
IsNoInputPlan = IsNoInputPlanOf IsRefusal IsRefused

-- SRC and DP were read through, one after the other, and this is what they hold
pub record AreRead (src datapath : Name) (old new : View) (inputs : Inputs) : Type 0 where
  pub read : IsReadThrough datapath text_limit old new
  pub source_is : WhereSpecified old (λ files. IsInput (content_of (files src)) inputs.source)
  pub datapath_is : WhereSpecified old (λ files. IsInput (content_of (files datapath)) inputs.datapath)

-- why they were not
abbrev pub AreUnread : Name → Name → View → View → Status → Type 0
AreUnread src datapath old new status =
    ((status ≡ Memory) × IsUnchangedButInput old new) ⊎ ((status ≡ Desk) × IsUnread src datapath old new)

-- The plan of the program of SRC over the datapath of DP, which were read through. `IsPlanOf` says which plan a graph
-- has over a datapath.
pub record IsReadPlanBy {P : Type 0} (IsPlanOf : Graph → Datapath → P → Type 0) (src datapath : Name) (old new : View)
    (path : Datapath) (p : P) : Type 0 where
  pub read : IsReadThrough datapath text_limit old new
  pub program : Program
  pub graph : Graph
  pub keeps : IsGraphFor program graph
  pub allowed : IsDatapath path
  pub plan : IsPlanOf graph path p
  pub specified :
      WhereSpecified old (λ files.
      IsPlannedOverBy IsProgramGraph IsPlanOf (content_of (files src)) (content_of (files datapath)) program path p)

abbrev pub IsReadPlan : Name → Name → View → View → Planned → Type 0
IsReadPlan src datapath old new planned = IsReadPlanBy IsPlan src datapath old new planned.path planned.plan
