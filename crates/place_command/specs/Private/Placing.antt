-- The plan of inputs that were read, and its microcode.
use Rattle.std.specs.Prelude.{◌≤◌, List, length}
use Rattle.desk_core.specs.View.{Content}
use Rattle.datapath.specs.declared.types.Datapath.{Datapath}
use Rattle.signal_graph.specs.GraphRules.{IsGraph}
use Rattle.signal_graph.specs.declared.graph.Graph.{Graph}
use Rattle.micro_image.specs.declared.image.Image.{Image}
use Rattle.plan_core.specs.declared.plan.Plan.{Plan}
use Rattle.plan_soundness.specs.Feasible.{IsFeasiblePlan}
use Rattle.plan_soundness.specs.ImageOf.{IsImageOf}
use Rattle.plan_soundness.specs.Run.{RunsSolution}
use Rattle.placed_plan.specs.declared.place.Place.{Place}
use Rattle.given_registers.specs.declared.given.GivenRegister.{GivenRegister}
use Rattle.place_file.specs.Given.{GivesPlaces}
use Rattle.place_file.specs.Registers.{GivesRegisters}
use Rattle.silc_files.specs.Limits.{text_limit, microcode_limit}
use Rattle.silc_files.specs.Reading.{IsInput}
use Rattle.silc_files.specs.declared.files.Input.{Input}
use Rattle.plan_commands.specs.Headline.{SpellsOnly}
use Rattle.plan_commands.specs.Planning.{IsInputPlanBy}
use Rattle.plan_commands.specs.declared.planning.Inputs.{Inputs}
use Rattle.place_command.specs.Placed.{IsPlanWith}
use Rattle.place_command.specs.declared.placer.Placed.{Placed}

-- the text of the input gives the places, and is not too long
abbrev pub AreGivenIn : Input → Datapath → List Place → Type 0
AreGivenIn input d places =
    (text : Content) → IsInput text input → (length text ≤ text_limit) × GivesPlaces d text places

-- it gives the registers
abbrev pub AreRegistersIn : Input → Datapath → List GivenRegister → Type 0
AreRegistersIn input d registers = (text : Content) → IsInput text input → GivesRegisters d text registers

-- the plan of the inputs, with the places and the registers that the text gives
pub record IsInputPlacing (inputs : Inputs) (text : Input) (placed : Placed) : Type 0 where
  pub plan :
      IsInputPlanBy (IsPlanWith placed.places placed.registers) inputs.source inputs.datapath placed.path placed.plan
  pub gives : AreGivenIn text placed.path placed.places
  pub gives_registers : AreRegistersIn text placed.path placed.registers

-- the microcode spells the image of the plan, which runs each graph of which the plan is a feasible one
pub record IsFeasibleMicrocode (d : Datapath) (plan : Plan) (microcode : Content) : Type 0 where
  pub image : Image
  pub image_of : IsImageOf d plan image
  pub spelled : SpellsOnly microcode image
  pub short : length microcode ≤ microcode_limit
  pub runs : (g : Graph) → IsGraph g → IsFeasiblePlan g d plan → RunsSolution g image
