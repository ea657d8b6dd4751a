-- What `silc_place SRC DP PLAN OUT` writes: microcode of the plan with the places and the registers that PLAN gives.
use Rattle.std.specs.Prelude.{◌≡◌, ◌≢◌, ◌≤◌, ℕ, List, [], length, map}
use Rattle.desk_core.specs.View.{Name, Content, Files, View}
use Rattle.desk_core.specs.Desk.{content_of}
use Rattle.datapath.specs.declared.types.Datapath.{Datapath}
use Rattle.front_end.specs.GraphOf.{IsProgramGraph}
use Rattle.micro_image.specs.declared.image.Image.{Image}
use Rattle.plan_core.specs.declared.plan.Plan.{Plan}
use Rattle.signal_graph.specs.declared.graph.Graph.{Graph}
use Rattle.plan_soundness.specs.ImageOf.{IsImageOf, width_of}
use Rattle.plan_soundness.specs.Units.{IsRouted}
use Rattle.placed_plan.specs.GivenPlans.{IsPlanGiven, HasRegisters}
use Rattle.placed_plan.specs.Places.{IsPlanAt, IsGiven, IsNarrow}
use Rattle.placed_plan.specs.declared.place.Place.{Place}
use Rattle.given_registers.specs.declared.given.GivenRegister.{GivenRegister}
use Rattle.place_file.specs.Given.{GivesPlaces}
use Rattle.place_file.specs.Registers.{GivesRegisters}
use Rattle.silage_meaning.specs.Solves.{input_types, output_types}
use Rattle.silage_syntax.specs.Tree.{Program}
use Rattle.silc_files.specs.Limits.{text_limit, microcode_limit}
use Rattle.statuses.specs.Status.{code_of}
use Rattle.statuses.specs.declared.status.Status.TheVariants.{Done, Desk}
use Rattle.plan_commands.specs.Compile.{IsDoneOf, IsWriteAnswerOf}
use Rattle.plan_commands.specs.Headline.{SpellsOnly, RunsTheSolution}
use Rattle.plan_commands.specs.Plans.{IsPlannedOverBy}
use Rattle.place_command.specs.declared.ending.PlaceEnding.{PlaceEnding}
use Rattle.place_command.specs.declared.ending.PlaceEnding.TheVariants.{Told, Refused}
use Rattle.place_command.specs.Refusals.{IsPlaceError, IsPlanRejected}

-- the plan of a graph over a datapath has these places and these registers
abbrev pub IsPlanWith : List Place → List GivenRegister → Graph → Datapath → Plan → Type 0
IsPlanWith places registers g d plan = IsPlanGiven places g d registers plan

-- The program of the source has a plan over the datapath of the file, in which each node stands where its line of the
-- text says, and each copy of a lifetime for which a line gives a register has that one. The text has no other lines
-- that begin with `node` or with `register`, and not too many bytes. The microcode spells the image of that plan in
-- version 2 and nothing else, and that image runs the program's one solution in the datapath's period.
pub record IsPlaced (source datapath text microcode : List ℕ) : Type 0 where
  pub program : Program
  pub path : Datapath
  pub places : List Place
  pub within : length text ≤ text_limit
  pub gives : GivesPlaces path text places
  pub registers : List GivenRegister
  pub gives_registers : GivesRegisters path text registers
  pub plan : Plan
  pub planned : IsPlannedOverBy IsProgramGraph (IsPlanWith places registers) source datapath program path plan
  -- where no register is given, it is the plan that the places alone have
  pub ordinary : registers ≡ [] → IsPlanAt places planned.has.graph path plan
  pub given : IsGiven places plan
  pub given_registers : HasRegisters registers plan
  pub routed : IsRouted path plan
  pub narrow : IsNarrow path plan
  pub image : Image
  pub image_of : IsImageOf path plan image
  pub spelled : SpellsOnly microcode image
  -- so that every command reads it
  pub short : length microcode ≤ microcode_limit
  pub inputs : image.inputs ≡ map width_of (input_types program)
  pub outs : image.outs ≡ length (output_types program)
  pub runs : RunsTheSolution program image
  pub period : image.period ≡ path.period

-- so it is of the source, the datapath and the plan in the files
abbrev pub ArePlaced : Name → Name → Name → Content → Files → Type 0
ArePlaced src datapath plan microcode files =
    IsPlaced (content_of (files src)) (content_of (files datapath)) (content_of (files plan)) microcode

-- OUT has microcode of the plan that PLAN's lines give, and every other file is as it was
abbrev pub HasThePlan : (src datapath plan out : Name) → (before after : Files) → Type 0
HasThePlan src datapath plan = IsDoneOf (ArePlaced src datapath plan)

-- all was read, and OUT written
abbrev pub IsDone : PlaceEnding → Type 0
IsDone (Told ending) = ending.status ≡ Done
IsDone (Refused refusal) = ⊥

-- it ended before OUT was begun
abbrev pub IsUnmade : PlaceEnding → Type 0
IsUnmade (Told ending) = (ending.status ≢ Done) × (ending.status ≢ Desk)
IsUnmade (Refused refusal) = Unit {0}

-- When each ending comes, and what it leaves. SRC's fault is told first, then DP's, then PLAN's, then that of its
-- places, then that of its registers.
abbrev pub IsPlaceAnswer : (src datapath plan out : Name) → View → View → PlaceEnding → Type 0
IsPlaceAnswer src datapath plan out old new (Told ending) =
    IsWriteAnswerOf (ArePlaced src datapath plan) (IsPlaceError src datapath plan) plan out old new ending.status
IsPlaceAnswer src datapath plan out old new (Refused refusal) = IsPlanRejected src datapath plan refusal old new

-- the exit code where PLAN gives no plan
abbrev pub refused : ℕ
refused = 16

-- the exit code of the program
abbrev pub place_code : PlaceEnding → ℕ
place_code (Told ending) = code_of ending.status
place_code (Refused refusal) = refused
