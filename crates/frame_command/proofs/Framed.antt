-- Microcode that spells the image of a plan over frames runs the source's one solution, frame by frame.
use Rattle.std.proofs.Common.{◌≡◌, subst, inl, inr}
use Rattle.desk_core.specs.View.{Name, Content, View}
use Rattle.desk_core.specs.Desk.{FaultsNeverFall, IsUnchanged}
use Rattle.frame_command.specs.Frame.{RunsTheFrames, AreFramed, IsFrameAnswer}
use Rattle.frame_command.specs.FrameGraphs.{IsGraphForFrames}
use Rattle.frame_command.specs.FramePlans.{IsFrameRefusal, IsFrameRefused, IsFrameError}
use Rattle.frame_command.specs.Planning.{IsReadFramePlan}
use Rattle.micro_image.specs.Fields.{microprogram_of}
use Rattle.micro_image.specs.Run.{IsRunOut}
use Rattle.micro_image.specs.declared.image.Image.{Image}
use Rattle.microcode_asm.specs.Planned.{IsPlanned}
use Rattle.plan_commands.specs.Compiling.{IsMicrocodeOf, IsMadeOf}
use Rattle.plan_commands.specs.declared.planning.Planned.{Planned}
use Rattle.plan_commands.proofs.Errors.{error_still}
use Rattle.plan_commands.proofs.Making.{write_reported}
use Rattle.plan_soundness.specs.Run.{RunsSolution}
use Rattle.rate_unfold.specs.Frames.{Rates}
use Rattle.signal_graph.specs.declared.graph.Graph.{Graph}
use Rattle.silage_syntax.specs.Tree.{Program}
use Rattle.statuses.specs.declared.status.Status.{Status}
use Rattle.statuses.specs.declared.status.Status.TheVariants.{Done, Memory, Desk}

-- an image that runs the graph over frames of a program runs the program's one solution
pub runs_the_frames : (r : Rates) (p : Program) (g : Graph) (image : Image)
    → IsGraphForFrames r p g
    → RunsSolution g image
    → RunsTheFrames r p image
runs_the_frames r p g image graph runs frames valid =
    let its = graph.keeps frames valid in
    (its.words, its.one, subst (IsRunOut (microprogram_of image) frames) its.rows (runs frames its.others its.solves))

module _ (r : Rates) (src datapath : Name) (old new : View) (planned : Planned)
    (plan : IsReadFramePlan r src datapath old new planned) where
  -- it is the plan of a graph
  pub is_planned : IsPlanned planned.path planned.plan
  is_planned = record { graph = plan.graph; sound = plan.keeps.sound; plan = plan.plan }

  -- its microcode is that of the files
  pub made : (microcode : Content)
      → IsMicrocodeOf planned.path planned.plan microcode
      → IsMadeOf (AreFramed r src datapath) datapath old new microcode
  made microcode of = record {
    read = plan.read;
    compiled = λ files is. record {
      program = plan.program;
      path = planned.path;
      plan = planned.plan;
      planned = plan.specified files is;
      image = of.image;
      image_of = of.image_of;
      spelled = of.spelled;
      short = of.short;
      runs =
          runs_the_frames r plan.program plan.graph of.image plan.keeps
          (of.runs plan.graph plan.keeps.sound plan.plan);
      period = of.image_of.period;
    };
  }

-- why it ends before it makes anything is its answer
pub frame_error : (r : Rates) (src datapath out : Name) (old new : View) (status : Status)
    → IsFrameError r src datapath old new status
    → IsFrameAnswer r src datapath out old new status
frame_error r src datapath out old new Done (inl memory) = let e : Done ≡ Memory = memory.0 in absurd (cc)
frame_error r src datapath out old new Done (inr (inl unread)) = let e : Done ≡ Desk = unread.0 in absurd (cc)
frame_error r src datapath out old new Done (inr (inr refused)) = absurd refused.0
frame_error r src datapath out old new Desk h = inl h
frame_error r src datapath out old new status h = h

-- a report of the error leaves the answer as it is
pub frame_reported : (r : Rates) (src datapath out : Name) (old mid new : View)
    → IsUnchanged mid new
    → FaultsNeverFall mid new
    → FaultsNeverFall old mid
    → (status : Status)
    → IsFrameAnswer r src datapath out old mid status
    → IsFrameAnswer r src datapath out old new status
frame_reported r src datapath out old mid new same later before =
    write_reported (AreFramed r src datapath) datapath out (IsFrameError r src datapath) old mid new same later before
    (error_still IsFrameRefusal (IsFrameRefused r) src datapath old mid new same later before)
