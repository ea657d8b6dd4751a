-- The machine of the guarded image of a plan with places that a text gives, or why there is none.
use Rattle.std.specs.Prelude.{◌≡◌, ◌⊎◌, ℕ, ◌-◌, ◌≤◌, [], length}
use Rattle.cycle_sim.specs.Machine.{Snapshot, state_of}
use Rattle.cycle_sim.specs.Microcode.{micro_of, inputs_of, IsSound}
use Rattle.datapath.specs.declared.types.Datapath.{Datapath}
use Rattle.desk_core.specs.View.{Name, Content, View}
use Rattle.desk_core.specs.Desk.{WhereSpecified, content_of}
use Rattle.micro_image.specs.Run.{Stands}
use Rattle.signal_graph.specs.GraphRules.{IsGraph}
use Rattle.signal_graph.specs.declared.graph.Graph.{Graph}
use Rattle.plan_soundness.specs.Run.{RunsSolutionLate}
use Rattle.plan_soundness.specs.Units.{IsRouted}
use Rattle.placed_plan.specs.Places.{IsGiven, IsNarrow}
use Rattle.place_file.specs.Given.{IsGivenBy}
use Rattle.place_file.specs.declared.given.Given.{Given}
use Rattle.overlap_plan.specs.IsStagePlan.{plan_of}
use Rattle.overlap_plan.specs.declared.plan.StagePlan.{StagePlan}
use Rattle.overlap_sim.specs.Guarded.{of_guarded}
use Rattle.overlap_sim.specs.GuardedOf.{IsGuardedOf}
use Rattle.overlap_sim.specs.Guardable.{IsFeasibleStagePlan}
use Rattle.overlap_sim.specs.declared.guarded.Guarded.{Guarded}
use Rattle.plan_commands.specs.Planning.{IsInputPlanBy, IsNoInputPlanOf}
use Rattle.plan_commands.specs.Refusals.{IsRefusal, IsErrorOf}
use Rattle.plan_commands.specs.declared.planning.Inputs.{Inputs}
use Rattle.run_command.specs.Private.Executing.{IsPlannedMachine}
use Rattle.silc_files.specs.Endings.{IsRejected}
use Rattle.silc_files.specs.Limits.{text_limit}
use Rattle.silc_files.specs.Reading.{IsInput}
use Rattle.silc_files.specs.declared.files.Input.{Input}
use Rattle.silc_files.specs.declared.files.Input.TheVariants.{Whole}
use Rattle.stage_commands.specs.Pipe.{staged_out}
use Rattle.statuses.specs.declared.status.Status.TheVariants.{Memory, Desk}
use Rattle.place_stages_command.specs.Piped.{PlacedPlan, IsPlacedPlanOf, IsPlacedOver}
use Rattle.place_stages_command.specs.Unpiped.{AreFilesRefused, IsTextRefusal, IsRefusalOf}
use Rattle.place_stages_command.specs.Unpiped.{IsRefusedOver, AreRefused, IsPlanUnread}
use Rattle.place_stages_command.specs.declared.ending.PipeEnding.{PipeEnding}
use Rattle.place_stages_command.specs.declared.ending.PipeEnding.TheVariants.{Told, Refused}
use Rattle.place_stages_command.specs.declared.ending.PipeRefusal.{PipeRefusal}
use Rattle.place_stages_command.specs.declared.piper.Placed.{Placed}

-- the input was read whole, and its text gives the places
pub record IsGivenIn (input : Input) (d : Datapath) (given : Given) : Type 0 where
  pub text : Content
  pub whole : input ≡ Whole text
  pub within : length text ≤ text_limit
  pub gives : IsGivenBy d text given

-- the plan and its places
abbrev pub placed_plan : Placed → PlacedPlan
placed_plan placed = record { places = placed.given.places; plan = placed.plan }

-- the plan of the inputs, with the places that the text gives
pub record IsInputPlacing (stages : ℕ) (inputs : Inputs) (text : Input) (placed : Placed) : Type 0 where
  pub plan : IsInputPlanBy (IsPlacedPlanOf stages) inputs.source inputs.datapath placed.path (placed_plan placed)
  pub gives : IsGivenIn text placed.path placed.given

-- there was no memory, or PLAN is refused for this reason
abbrev pub IsRefusedFor : (Reason : PipeRefusal → Type 0) → PipeEnding → Type 0
IsRefusedFor Reason (Told ending) = ending.status ≡ Memory
IsRefusedFor Reason (Refused refusal) = Reason refusal

-- the text of the input gives no places
abbrev pub IsUngivenIn : Datapath → Input → PipeRefusal → Type 0
IsUngivenIn d input refusal = (text : Content) → IsInput text input → IsTextRefusal d text refusal

-- it gives no plan of the graph over the datapath
abbrev pub IsUnplacedIn : (stages : ℕ) → Graph → Datapath → Input → PipeRefusal → Type 0
IsUnplacedIn stages g d input refusal =
    (text : Content) → IsInput text input → IsRefusalOf stages g d text refusal

-- why the inputs have no plan with the places of the text
abbrev pub IsNoInputPlacing : (stages : ℕ) → Inputs → Input → PipeEnding → Type 0
IsNoInputPlacing stages inputs text (Told ending) =
    IsNoInputPlanOf IsRefusal AreFilesRefused inputs.source inputs.datapath ending.status
IsNoInputPlacing stages inputs text (Refused refusal) =
    (s d t : Content)
    → IsInput s inputs.source
    → IsInput d inputs.datapath
    → IsInput t text
    → IsRefusedOver stages s d t refusal

-- the machine stands before the first cycle of the guarded image of the plan, which runs the solution of each graph of
-- which this is a feasible plan
pub record IsLoadedPlan (d : Datapath) (plan : StagePlan) (machine : Snapshot) : Type 0 where
  pub stands : Stands (state_of machine) (micro_of machine.code) []
  pub guarded : Guarded
  pub guarded_of : IsGuardedOf plan.stages d (plan_of plan) guarded
  pub obeys : micro_of machine.code ≡ of_guarded guarded
  pub inputs : inputs_of machine.code ≡ guarded.inputs
  pub runs : (g : Graph)
      → IsGraph g
      → IsFeasibleStagePlan g d plan
      → RunsSolutionLate (plan.stages - 1) g (of_guarded guarded)

-- and its microcode is sound
pub record IsMachineOfPlan (d : Datapath) (plan : StagePlan) (machine : Snapshot) : Type 0 where
  pub loaded : IsLoadedPlan d plan machine
  pub sound : IsSound machine.code

-- the machine before its first cycle, with the guarded image of the plan of SRC's program over the datapath of DP,
-- with the places that PLAN gives; the inputs were read through
pub record IsGuardedMachine (stages : ℕ) (src datapath plan : Name) (old new : View) (machine : Snapshot)
    : Type 0 where
  pub text : Content
  pub text_is : WhereSpecified old (λ files. text ≡ content_of (files plan))
  pub planned : IsPlannedMachine (IsPlacedOver stages text) (staged_out stages) src datapath old new machine
  pub given : IsGiven planned.plan.places (plan_of planned.plan.plan)
  pub routed : IsRouted planned.path (plan_of planned.plan.plan)
  pub narrow : IsNarrow planned.path (plan_of planned.plan.plan)
  pub guarded : Guarded
  pub guarded_of : IsGuardedOf stages planned.path (plan_of planned.plan.plan) guarded
  pub obeys : micro_of machine.code ≡ of_guarded guarded

-- why there is no machine
abbrev pub IsUnready : (stages : ℕ) → (src datapath plan : Name) → View → View → PipeEnding → Type 0
IsUnready stages src datapath plan old new (Told ending) =
    ((ending.status ≡ Desk) × IsPlanUnread plan old new)
    ⊎ IsErrorOf IsRefusal AreFilesRefused src datapath old new ending.status
IsUnready stages src datapath plan old new (Refused refusal) =
    IsRejected datapath text_limit (AreRefused stages src datapath plan refusal) old new
