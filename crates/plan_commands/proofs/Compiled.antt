-- Microcode that spells the image of a plan is compiled from the source that the plan is of.
use Rattle.std.proofs.Common.{◌∙◌, sym, ap, subst, List, ℕ, map}
use Rattle.desk_core.specs.View.{Name, Content, View}
use Rattle.loop_expand.proofs.ProgramSystem.{solves_system}
use Rattle.micro_file.proofs.Unique.{Spells-unique, in_either}
use Rattle.micro_image.specs.Fields.{microprogram_of}
use Rattle.micro_image.specs.Run.{IsRunOut}
use Rattle.micro_image.specs.Spells.{SpellsIn}
use Rattle.micro_image.specs.declared.image.Image.{Image}
use Rattle.micro_image.specs.declared.version.Version.TheVariants.{Two}
use Rattle.plan_soundness.specs.ImageOf.{width_of}
use Rattle.plan_soundness.specs.Run.{RunsSolution}
use Rattle.signal_graph.specs.declared.graph.Graph.{Graph}
use Rattle.silage_syntax.specs.Tree.{Program}
use Rattle.plan_commands.specs.Headline.{SpellsOnly, RunsTheSolution}
use Rattle.plan_commands.specs.Compiling.{IsMicrocodeOf, IsMade}
use Rattle.loop_expand.specs.GraphFor.{IsGraphFor}
use Rattle.plan_commands.specs.Planning.{IsReadPlan}
use Rattle.plan_commands.specs.declared.planning.Planned.{Planned}

pub spells_only : (bytes : List ℕ) (image : Image) → SpellsIn Two bytes image → SpellsOnly bytes image
spells_only bytes image is =
    record { spells = is; unique = λ other its. sym (Spells-unique bytes image other (in_either is) its) }

-- an image that runs the graph of a program runs the program's one solution
pub runs_the_solution : (p : Program) (g : Graph) (image : Image)
    → IsGraphFor p g
    → RunsSolution g image
    → RunsTheSolution p image
runs_the_solution p g image graph runs stream valid =
    let (words, one) = graph.keeps.one_solution stream valid in
    let (others, theirs, equal) =
    (graph.keeps.solutions stream valid).forth words ((solves_system p stream words).0 one.solves) in
    (words, one, subst (IsRunOut (microprogram_of image) stream) equal (runs stream others theirs.solves))

module _ (src datapath : Name) (old new : View) (planned : Planned)
    (plan : IsReadPlan src datapath old new planned) where
  -- its microcode is compiled from the files
  pub made : (microcode : Content)
      → IsMicrocodeOf planned.path planned.plan microcode
      → IsMade src datapath old new microcode
  made microcode of = record {
    read = plan.read;
    compiled = λ files is. record {
      program = plan.program;
      path = planned.path;
      plan = planned.plan;
      planned = plan.specified files is;
      image = of.image;
      image_of = of.image_of;
      spelled = of.spelled;
      short = of.short;
      inputs = of.image_of.inputs ∙ ap (map width_of) (plan.plan.inputs ∙ plan.keeps.keeps.inputs);
      outs = of.image_of.outs ∙ plan.plan.outs ∙ plan.keeps.keeps.outs;
      runs =
          runs_the_solution plan.program plan.graph of.image plan.keeps (of.runs plan.graph plan.keeps.sound plan.plan);
      period = of.image_of.period;
    };
  }
