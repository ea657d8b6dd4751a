-- The endings of the command's parts.
use Rattle.std.specs.Prelude.{◌≡◌, ◌⊎◌, ◌<◌, ◌≤◌, List, ℕ, length, IfSome}
use Rattle.datapath.specs.declared.types.Datapath.{Datapath}
use Rattle.desk_core.specs.View.{Name, Content, View}
use Rattle.place_file.specs.Given.{IsGivenBy}
use Rattle.place_file.specs.Registers.{AreRegistersBy}
use Rattle.place_file.specs.declared.registers.GivenRegisters.{GivenRegisters}
use Rattle.given_registers.specs.declared.fault.RegisterFault.{RegisterFault}
use Rattle.given_registers.specs.declared.fault.RegisterFault.TheVariants as of_registers
use Rattle.placed_plan.specs.GivenPlans.{IsGivenPlanFault}
use Rattle.placed_plan.specs.declared.fault.PlaceFault.{PlaceFault}
use Rattle.placed_plan.specs.declared.fault.PlaceFault.TheVariants as of_place
use Rattle.placed_plan.specs.declared.fault.GivenPlanFault.{GivenPlanFault}
use Rattle.placed_plan.specs.declared.fault.GivenPlanFault.TheVariants as of_plan
use Rattle.plan_commands.specs.Planning.{IsNoInputPlanOf}
use Rattle.plan_commands.specs.declared.planning.Inputs.{Inputs}
use Rattle.signal_graph.specs.declared.graph.Graph.{Graph}
use Rattle.silc_files.specs.Limits.{text_limit}
use Rattle.silc_files.specs.Reading.{IsInput}
use Rattle.silc_files.specs.declared.files.Input.{Input}
use Rattle.statuses.specs.declared.status.Status.TheVariants.{Memory}
use Rattle.place_command.specs.Refusals.{named_node, plan_refusal, IsTextRefused, IsMisplaced, IsRefusedPlan}
use Rattle.place_command.specs.Refusals.{IsInputRefusal, IsInputRefused, IsPlaceError, IsPlanRejected}
use Rattle.place_command.specs.declared.ending.PlaceEnding.{PlaceEnding}
use Rattle.place_command.specs.declared.ending.PlaceEnding.TheVariants.{Told, Refused}
use Rattle.place_command.specs.declared.ending.Refusal.{Refusal}
use Rattle.place_command.specs.declared.placer.PlanLines.{PlanLines}

-- the node that the fault names has a line among these
abbrev pub HasItsLine : List ℕ → PlaceFault → Type 0
HasItsLine lines fault = IfSome (named_node fault) (λ v. v < length lines)

-- the register that the fault names is given by a line, or the node has one
abbrev pub HasItsRegister : List ℕ → GivenRegisters → RegisterFault → Type 0
HasItsRegister lines given (of_registers.Given n cause) = (n < length given.registers) × (n < length given.lines)
HasItsRegister lines given (of_registers.Full unit port v) = v < length lines
HasItsRegister lines given of_registers.Memory = Unit {0}

-- so it is of a fault of either
abbrev pub HasItsPlace : List ℕ → GivenRegisters → GivenPlanFault → Type 0
HasItsPlace lines given (of_plan.Place fault) = HasItsLine lines fault
HasItsPlace lines given (of_plan.Registers fault) = HasItsRegister lines given fault
HasItsPlace lines given of_plan.Memory = Unit {0}

-- the fault is want of memory
abbrev pub IsWantOfMemory : GivenPlanFault → Type 0
IsWantOfMemory (of_plan.Place fault) = fault ≡ of_place.Memory
IsWantOfMemory (of_plan.Registers fault) = fault ≡ of_registers.Memory
IsWantOfMemory of_plan.Memory = Unit {0}

-- the ending tells this refusal, or want of memory where that is why
abbrev pub IsToldAs : (IsMemory : Type 0) → Refusal → PlaceEnding → Type 0
IsToldAs IsMemory why (Told ending) = IsMemory × (ending.status ≡ Memory)
IsToldAs IsMemory why (Refused refusal) = (IsMemory → ⊥) × (refusal ≡ why)

-- the ending tells a refusal of which this holds, or want of memory
abbrev pub IsEndingOf : (Tells : Refusal → Type 0) → PlaceEnding → Type 0
IsEndingOf Tells (Told ending) = ending.status ≡ Memory
IsEndingOf Tells (Refused refusal) = Tells refusal

-- each place and each register has the number of its line
pub record HaveTheirLines (lines : PlanLines) : Type 0 where
  pub places : length lines.places.lines ≡ length lines.places.places
  pub registers : length lines.registers.lines ≡ length lines.registers.registers

-- the text gives these places and registers
pub record ArePlanLines (text : Content) (d : Datapath) (lines : PlanLines) : Type 0 where
  pub places : IsGivenBy d text lines.places
  pub registers : AreRegistersBy d text lines.registers

-- the input's text gives them, and is not too long
abbrev pub ArePlanLinesIn : Input → Datapath → PlanLines → Type 0
ArePlanLinesIn input d lines =
    (text : Content) → IsInput text input → (length text ≤ text_limit) × ArePlanLines text d lines

-- it gives none
abbrev pub IsUngivenIn : Input → Datapath → Refusal → Type 0
IsUngivenIn input d refusal = (text : Content) → IsInput text input → IsTextRefused d text refusal

-- the graph has no plan with the places and the registers of the lines
pub record IsPlanless (g : Graph) (d : Datapath) (lines : PlanLines) (refusal : Refusal) : Type 0 where
  pub fault : GivenPlanFault
  pub is_fault : IsGivenPlanFault lines.places.places g d lines.registers.registers fault
  pub told : refusal ≡ plan_refusal lines.places.lines lines.registers fault

-- the text gives none, or places and registers with which the graph has no plan
abbrev pub IsUnplacedIn : Input → Graph → Datapath → Refusal → Type 0
IsUnplacedIn input g d refusal =
    (text : Content) → IsInput text input → IsTextRefused d text refusal ⊎ IsMisplaced g d text refusal

-- why the inputs have no plan with the places and the registers that the text gives
abbrev pub IsNoInputPlacing : Inputs → Input → PlaceEnding → Type 0
IsNoInputPlacing inputs text (Told ending) =
    IsNoInputPlanOf IsInputRefusal IsInputRefused inputs.source inputs.datapath ending.status
IsNoInputPlacing inputs text (Refused refusal) =
    (s d t : Content)
    → IsInput s inputs.source
    → IsInput d inputs.datapath
    → IsInput t text
    → IsRefusedPlan refusal s d t

-- why no microcode is made
abbrev pub IsNotMade : (src datapath plan : Name) → View → View → PlaceEnding → Type 0
IsNotMade src datapath plan old new (Told ending) = IsPlaceError src datapath plan old new ending.status
IsNotMade src datapath plan old new (Refused refusal) = IsPlanRejected src datapath plan refusal old new
