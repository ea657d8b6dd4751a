-- The microcode that `compile` makes of a plan.
use Rattle.std.specs.Prelude.{◌≤◌, length}
use Rattle.desk_core.specs.View.{Name, Content, Files, View}
use Rattle.desk_core.specs.Desk.{WhereSpecified}
use Rattle.desk_core.specs.Whole.{IsReadThrough}
use Rattle.datapath.specs.declared.types.Datapath.{Datapath}
use Rattle.signal_graph.specs.GraphRules.{IsGraph}
use Rattle.signal_graph.specs.declared.graph.Graph.{Graph}
use Rattle.micro_image.specs.declared.image.Image.{Image}
use Rattle.plan_core.specs.declared.plan.Plan.{Plan}
use Rattle.plan_soundness.specs.ImageOf.{IsImageOf}
use Rattle.plan_soundness.specs.Run.{RunsSolution}
use Rattle.plan_core.specs.IsPlan.{IsPlan}
use Rattle.plan_commands.specs.Compile.{AreCompiled}
use Rattle.plan_commands.specs.Headline.{SpellsOnly}
use Rattle.silc_files.specs.Limits.{text_limit, microcode_limit}

-- the microcode spells the image of the plan, which runs the graph that the plan is of
pub record IsMicrocodeOf (d : Datapath) (plan : Plan) (microcode : Content) : Type 0 where
  pub image : Image
  pub image_of : IsImageOf d plan image
  pub spelled : SpellsOnly microcode image
  pub short : length microcode ≤ microcode_limit
  pub runs : (g : Graph) → IsGraph g → IsPlan g d plan → RunsSolution g image

-- the microcode is that of the files, of which the last was read through; `IsOf` says which microcode they have
pub record IsMadeOf (IsOf : Content → Files → Type 0) (last : Name) (old new : View) (microcode : Content)
    : Type 0 where
  pub read : IsReadThrough last text_limit old new
  pub compiled : WhereSpecified old (IsOf microcode)

-- the microcode is compiled from the files
abbrev pub IsMade : (src datapath : Name) → (old new : View) → Content → Type 0
IsMade src datapath = IsMadeOf (AreCompiled src datapath) datapath
