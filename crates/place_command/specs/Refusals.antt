-- Why `silc_place SRC DP PLAN OUT` makes no microcode of its files: each status and each refusal that comes before
-- OUT is begun.
use Rattle.std.specs.Prelude.{◌≡◌, ◌⊎◌, ◌<◌, ◌≤◌, ℕ, List, [], ◌∷◌, length, slice_index_or, Option, Some, None}
use Rattle.datapath.specs.Described.{IsPathOf}
use Rattle.datapath.specs.declared.types.Datapath.{Datapath}
use Rattle.desk_core.specs.View.{Name, Content, Files, View}
use Rattle.desk_core.specs.Desk.{ReadFaultsRose, content_of}
use Rattle.desk_core.specs.Whole.{IsUnchangedButInput}
use Rattle.front_end.specs.GraphOf.{IsProgramGraph}
use Rattle.place_file.specs.Faults.{IsGivenFault}
use Rattle.place_file.specs.Given.{IsGivenBy}
use Rattle.place_file.specs.declared.fault.GivenFault.{GivenFault}
use Rattle.place_file.specs.declared.fault.GivenFault.TheVariants as of_given
use Rattle.place_file.specs.declared.given.Given.{Given}
use Rattle.place_file.specs.Registers.{AreRegistersBy, IsRegistersFault}
use Rattle.place_file.specs.declared.registers.GivenRegisters.{GivenRegisters}
use Rattle.place_file.specs.declared.fault.RegistersFault.{RegistersFault}
use Rattle.given_registers.specs.Around.{given_at}
use Rattle.given_registers.specs.declared.fault.RegisterFault.{RegisterFault}
use Rattle.given_registers.specs.declared.fault.RegisterFault.TheVariants as of_registers
use Rattle.placed_plan.specs.Faults.{IsPlaceFault}
use Rattle.placed_plan.specs.GivenPlans.{IsGivenPlanFault}
use Rattle.placed_plan.specs.declared.fault.GivenPlanFault.{GivenPlanFault}
use Rattle.placed_plan.specs.declared.fault.GivenPlanFault.TheVariants as of_plan
use Rattle.placed_plan.specs.declared.fault.PlaceFault.{PlaceFault}
use Rattle.placed_plan.specs.declared.fault.PlaceFault.TheVariants.{Line as Unstored, Missing, Surplus, TooWide}
use Rattle.placed_plan.specs.declared.fault.PlaceFault.TheVariants.{WrongUnit, Late, Past, Busy, FileWritten}
use Rattle.placed_plan.specs.declared.fault.PlaceFault.TheVariants.{NoBus, FileFull, Memory}
use Rattle.plan_commands.specs.Refusals.{IsOfPath, IsRefusedBy, AreTold}
use Rattle.signal_graph.specs.declared.graph.Graph.{Graph}
use Rattle.silage_syntax.specs.Tree.{Program}
use Rattle.silc_files.specs.Endings.{IsAmong, IsRejected}
use Rattle.silc_files.specs.Limits.{text_limit}
use Rattle.source_faults.specs.Faults.{HasProgram, IsOfSource}
use Rattle.statuses.specs.declared.status.Status.{Status}
use Rattle.statuses.specs.declared.status.Status.TheVariants.{FrontEnd, Path, Desk}
use Rattle.statuses.specs.declared.status.Status.TheVariants as of_status
use Rattle.place_command.specs.declared.ending.Refusal.{Refusal}
use Rattle.place_command.specs.declared.ending.Refusal.TheVariants.{TooLong, Text, Line, Plan, Registers, Register}

-- how a fault of the text is told: where no line has a node, as the fault of places that it is
abbrev pub text_refusal : GivenFault → Refusal
text_refusal (of_given.Missing v) = Plan (Missing v)
text_refusal fault = Text fault

-- the node that a fault of places names, where its number is that of a place
abbrev pub named_node : PlaceFault → Option ℕ
named_node (Unstored fault) = None
named_node (Missing v) = None
named_node (Surplus v) = Some v
named_node (TooWide v) = Some v
named_node (WrongUnit v) = Some v
named_node (Late v operand from) = Some v
named_node (Past v) = Some v
named_node (Busy v) = Some v
named_node (FileWritten unit port v) = Some v
named_node (NoBus unit port v) = Some v
named_node (FileFull unit port v) = Some v
named_node Memory = None

-- How a fault of places is told: with the line that gives the node its place, where it names one. The lines are
-- those of the nodes in their order.
abbrev pub told_at : List ℕ → PlaceFault → Option ℕ → Refusal
told_at lines fault None = Plan fault
told_at lines fault (Some v) = Line (slice_index_or lines v 0) fault

abbrev pub place_refusal : List ℕ → PlaceFault → Refusal
place_refusal lines fault = told_at lines fault (named_node fault)

-- how a fault of registers is told: with the line that gives the register, or, where a copy finds none, with the line
-- of its node
abbrev pub register_refusal : List ℕ → GivenRegisters → RegisterFault → Refusal
register_refusal lines given (of_registers.Given n cause) =
    Register (slice_index_or given.lines n 0) (given_at given.registers n) cause
register_refusal lines given (of_registers.Full unit port v) = place_refusal lines (FileFull unit port v)
register_refusal lines given of_registers.Memory = Plan Memory

abbrev pub plan_refusal : List ℕ → GivenRegisters → GivenPlanFault → Refusal
plan_refusal lines given (of_plan.Place fault) = place_refusal lines fault
plan_refusal lines given (of_plan.Registers fault) = register_refusal lines given fault
plan_refusal lines given of_plan.Memory = Plan Memory

-- the text has a fault of its own
pub record IsUngiven (d : Datapath) (text : Content) (refusal : Refusal) : Type 0 where
  pub short : length text ≤ text_limit
  pub fault : GivenFault
  pub is_fault : IsGivenFault d text fault
  pub told : refusal ≡ text_refusal fault

-- its lines of nodes have none, and its lines of registers have one
pub record IsRegisterless (d : Datapath) (text : Content) (refusal : Refusal) : Type 0 where
  pub short : length text ≤ text_limit
  pub given : Given
  pub gives : IsGivenBy d text given
  pub fault : RegistersFault
  pub is_fault : IsRegistersFault d text fault
  pub told : refusal ≡ Registers fault

-- it is too long, or else has a fault of its own
abbrev pub IsTextRefused : Datapath → Content → Refusal → Type 0
IsTextRefused d text refusal =
    ((refusal ≡ TooLong) × (text_limit < length text)) ⊎ IsUngiven d text refusal ⊎ IsRegisterless d text refusal

-- the refusal tells a fault of the places that are given, whatever registers are
abbrev pub TellsPlaceFault : Graph → Datapath → Given → Refusal → Type 0
TellsPlaceFault g d given refusal =
    (fault : PlaceFault) × IsPlaceFault g d given.places fault × (refusal ≡ place_refusal given.lines fault)

-- the text gives places and registers, and the graph has no plan with them
pub record IsMisplaced (g : Graph) (d : Datapath) (text : Content) (refusal : Refusal) : Type 0 where
  pub short : length text ≤ text_limit
  pub given : Given
  pub gives : IsGivenBy d text given
  pub registers : GivenRegisters
  pub gives_registers : AreRegistersBy d text registers
  pub fault : GivenPlanFault
  pub is_fault : IsGivenPlanFault given.places g d registers.registers fault
  pub told : refusal ≡ plan_refusal given.lines registers fault
  -- where no register is given, the places alone have none
  pub ordinary : registers.registers ≡ [] → TellsPlaceFault g d given refusal

-- Why there is no plan of a source over a datapath with the places and the registers of a text. The source has a
-- program and the file describes a datapath: a fault of one of them is told first, by a status.
pub record IsRefusedPlan (refusal : Refusal) (source datapath text : List ℕ) : Type 0 where
  pub program : Program
  pub read : HasProgram source program
  pub graph : Graph
  pub graph_of : IsProgramGraph program graph
  pub path : Datapath
  pub described : IsPathOf datapath path
  pub refused : IsTextRefused path text refusal ⊎ IsMisplaced graph path text refusal

-- so it is of the source, the datapath and the plan in the files
abbrev pub AreRefusedPlan : (src datapath plan : Name) → Refusal → Files → Type 0
AreRefusedPlan src datapath plan refusal files =
    IsRefusedPlan refusal (content_of (files src)) (content_of (files datapath)) (content_of (files plan))

-- the status tells a fault of SRC or of DP
abbrev pub IsInputRefusal : Status → Type 0
IsInputRefusal (FrontEnd fault) = IsOfSource fault
IsInputRefusal (Path fault) = IsOfPath fault
IsInputRefusal _ = ⊥

-- what it tells: the fault of the source, or that of the datapath where the source has none
abbrev pub IsInputRefused : Status → (source datapath : List ℕ) → Type 0
IsInputRefused = IsRefusedBy (λ status source datapath. ⊥)

-- one of these inputs could not be read; at most the input and the faults changed
pub record IsOneUnread (inputs : List Name) (old new : View) : Type 0 where
  pub unchanged : IsUnchangedButInput old new
  pub name : Name
  pub among : IsAmong inputs name
  pub rose : ReadFaultsRose name old new

module _ (src datapath plan : Name) where
  -- Why the command ends before OUT is begun and PLAN is judged: there was no memory, an input could not be read, or
  -- SRC or DP is refused. The last input, PLAN, is read through before one is judged.
  abbrev pub IsPlaceError : View → View → Status → Type 0
  IsPlaceError old new status =
      ((status ≡ of_status.Memory) × IsUnchangedButInput old new)
      ⊎ ((status ≡ Desk) × IsOneUnread (src ∷ datapath ∷ plan ∷ []) old new)
      ⊎ (IsInputRefusal status × IsRejected plan text_limit (AreTold IsInputRefused src datapath status) old new)

  -- or PLAN gives no plan
  abbrev pub IsPlanRejected : Refusal → View → View → Type 0
  IsPlanRejected refusal = IsRejected plan text_limit (AreRefusedPlan src datapath plan refusal)
