-- What is known of processors whose plans were made, apart from their files.
use Rattle.std.specs.Prelude.{◌≡◌, ◌⊎◌, List, length, map}
use Rattle.std.specs.List.{All, AllZip}
use Rattle.lists.specs.Rows.{Rows}
use Rattle.desk_core.specs.View.{Content}
use Rattle.front_end.specs.ProgramFlat.{IsProgramFlat}
use Rattle.loop_expand.specs.GraphFor.{IsGraphFor}
use Rattle.loop_expand.specs.InTypes.{flat_output_types, HasTypedSolutions}
use Rattle.micro_image.specs.Valid.{IsValid}
use Rattle.micro_image.specs.declared.image.Image.{Image}
use Rattle.net_command.specs.Ports.{program_ports}
use Rattle.net_command.specs.Processors.{ProcFiles, ProcPlan, HasProcPlan, IsFirstRefused, images_of, ports_of}
use Rattle.net_command.specs.declared.processors.Processors.{Processors}
use Rattle.net_fit.specs.declared.ports.Ports.{Ports}
use Rattle.net_solution.specs.Solutions.{IsStreamFor}
use Rattle.plan_commands.specs.Headline.{RunsTheSolution}
use Rattle.plan_commands.specs.Planning.{IsSourceIn}
use Rattle.plan_commands.specs.Refusals.{IsRefusal}
use Rattle.plan_commands.specs.declared.planning.Inputs.{Inputs}
use Rattle.plan_soundness.specs.ImageOf.{width_of}
use Rattle.signal_graph.specs.Flat as flat
use Rattle.signal_graph.specs.FlatRules.{IsFlat}
use Rattle.signal_graph.specs.FlatSolves.{IsFlatLoopless}
use Rattle.signal_graph.specs.Rules.{IsType}
use Rattle.signal_graph.specs.declared.graph.Graph.{Graph}
use Rattle.silage_meaning.specs.Solves.{IsStream, input_types, output_types}
use Rattle.silage_syntax.specs.Tree.{Program}
use Rattle.silc_files.specs.Reading.{IsInput}
use Rattle.silc_files.specs.declared.files.Input.{Input}
use Rattle.source_faults.specs.Faults.{HasProgram}
use Rattle.statuses.specs.declared.status.Status.{Status}
use Rattle.statuses.specs.declared.status.Status.TheVariants.{Memory}

-- the program of the input with its flat program
pub record HasAccepted (input : Input) (program : Program) (f : flat.Program) : Type 0 where
  -- a source that the input is
  pub source : Content
  pub is : IsInput source input
  pub source_is : (s : Content) → IsInput s input → HasProgram s program
  pub flat_of : IsProgramFlat program f
  pub sound : IsFlat f
  pub loopless : IsFlatLoopless f
  pub typed : HasTypedSolutions program
  pub outs : flat_output_types f ≡ output_types program

-- the program of the input with its graph, and the types of its words
pub record HasSource (input : Input) (g : Graph) (ports : Ports) : Type 0 where
  pub program : Program
  pub source_is : IsSourceIn input program g
  pub keeps : IsGraphFor program g
  pub typed : HasTypedSolutions program
  pub ports_are : ports ≡ program_ports program

-- the image runs the program's one solution over each stream of its ranges, whose words are in the program's types
pub record IsPrepared (its : ProcPlan) : Type 0 where
  pub valid : IsValid its.image
  pub inputs : its.image.inputs ≡ map width_of (input_types its.program)
  pub outs : its.image.outs ≡ length (output_types its.program)
  pub types : All IsType (input_types its.program)
  pub streams : (stream : Rows) → IsStreamFor its.image stream → IsStream its.program stream
  pub runs : RunsTheSolution its.program its.image
  pub typed : HasTypedSolutions its.program

-- the inputs are these files
pub record HasInputs (files : ProcFiles) (inputs : Inputs) : Type 0 where
  pub source : IsInput files.source inputs.source
  pub datapath : IsInput files.datapath inputs.datapath

-- the inputs have this plan
pub record IsPreparedFrom (inputs : Inputs) (its : ProcPlan) : Type 0 where
  pub prepared : IsPrepared its
  pub has : (files : ProcFiles) → HasInputs files inputs → HasProcPlan files its

-- the image of a processor, and the types of its words
abbrev pub HasProcessor : Inputs → Image → Ports → Type 0
HasProcessor inputs image ports =
    (its : ProcPlan) × IsPreparedFrom inputs its × (image ≡ its.image) × (ports ≡ program_ports its.program)

-- those of each processor
pub record AreProcessors (inputs : List Inputs) (processors : Processors) : Type 0 where
  pub plans : List ProcPlan
  pub prepared : AllZip IsPreparedFrom inputs plans
  pub images : processors.images ≡ images_of plans
  pub ports : processors.ports ≡ ports_of plans

-- why there are none
abbrev pub IsNoProcessor : List Inputs → Status → Type 0
IsNoProcessor inputs status =
    (status ≡ Memory)
    ⊎ (IsRefusal status × ((files : List ProcFiles) → AllZip HasInputs files inputs → IsFirstRefused status files))
