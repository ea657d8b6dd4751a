-- The plan over frames that `frame` makes of its inputs.
use Rattle.std.specs.Prelude.{◌≡◌, ◌*◌, length}
use Rattle.lists.specs.Rows.{Rows}
use Rattle.datapath.specs.Allowed.{IsDatapath}
use Rattle.desk_core.specs.View.{Name, Content, View}
use Rattle.desk_core.specs.Desk.{WhereSpecified, content_of}
use Rattle.desk_core.specs.Whole.{IsReadThrough}
use Rattle.frame_command.specs.FrameGraphs.{IsFrameGraph, IsGraphForFrames}
use Rattle.frame_command.specs.FramePlans.{IsOfFrame, HasFrameFault, IsFramedOver, IsFrameRefusal, IsFrameRefused}
use Rattle.front_end.specs.ProgramFlat.{IsProgramFlat, KeepsFlatProgram}
use Rattle.plan_commands.specs.Planning.{IsNoInputPlanOf, IsPathIn}
use Rattle.plan_commands.specs.declared.planning.Planned.{Planned}
use Rattle.plan_core.specs.IsPlan.{IsPlan}
use Rattle.rate_unfold.specs.Frames.{Rates, frame_types, frame_out}
use Rattle.rate_unfold.specs.Solutions.{fast_of}
use Rattle.signal_graph.specs.Flat as flat
use Rattle.signal_graph.specs.FlatRules.{IsFlat}
use Rattle.signal_graph.specs.FlatSolves.{IsFlatLoopless, FlatSolves, flat_out}
use Rattle.signal_graph.specs.GraphSolves.{GraphSolves, graph_out}
use Rattle.signal_graph.specs.Keeps.{IsStreamOf}
use Rattle.signal_graph.specs.Values.{Words}
use Rattle.signal_graph.specs.declared.graph.Graph.{Graph}
use Rattle.silage_syntax.specs.Tree.{Program}
use Rattle.silc_files.specs.Limits.{text_limit}
use Rattle.silc_files.specs.Reading.{IsInput}
use Rattle.silc_files.specs.declared.files.Input.{Input}
use Rattle.source_faults.specs.Faults.{HasProgram, IsFrontFault, IsOfSource}
use Rattle.statuses.specs.declared.status.Status.{Status}
use Rattle.statuses.specs.declared.status.Status.TheVariants.{Memory, FrontEnd, Frame}

-- the input has the program
abbrev pub IsProgramIn : Input → Program → Type 0
IsProgramIn input program = (s : Content) → IsInput s input → HasProgram s program

-- the program of the input with its flat program, which keeps its solutions
pub record IsFlatIn (input : Input) (program : Program) (f : flat.Program) : Type 0 where
  pub source_is : IsProgramIn input program
  pub flat_of : IsProgramFlat program f
  pub sound : IsFlat f
  pub loopless : IsFlatLoopless f
  pub keeps : KeepsFlatProgram program f

module _ (r : Rates) where
  -- what each solution of the flat program over the rows of frames comes to: one of the graph over the frames, whose
  -- output rows are the frames of those of the program
  pub record KeepsFrameRows (f : flat.Program) (g : Graph) : Type 0 where
    pub stream : (frames : Rows)
        → IsStreamOf (frame_types r.phases r.up f.inputs) frames
        → IsStreamOf f.inputs (fast_of r f frames)
    pub solutions : (frames : Rows)
        → IsStreamOf (frame_types r.phases r.up f.inputs) frames
        → (words : Words)
        → FlatSolves f (fast_of r f frames) words
        → (others : Words)
        × GraphSolves g frames others
        × (graph_out g others (length frames)
        ≡ frame_out r (length f.outs) (flat_out f words (length frames * r.phases)))

  -- the program of the input with its graph over frames, which keeps its solutions
  pub record IsFrameSource (input : Input) (program : Program) (g : Graph) : Type 0 where
    pub source_is : IsProgramIn input program
    pub graph_of : IsFrameGraph r program g
    pub keeps : IsGraphForFrames r program g

  abbrev pub HasFrameGraph : Input → Graph → Type 0
  HasFrameGraph input g = (program : Program) × IsFrameSource input program g

  -- why the input has none
  abbrev pub IsNoFrameSource : Input → Status → Type 0
  IsNoFrameSource input Memory = Unit {0}
  IsNoFrameSource input (FrontEnd fault) = IsOfSource fault × ((s : Content) → IsInput s input → IsFrontFault s fault)
  IsNoFrameSource input (Frame fault) = IsOfFrame fault × ((s : Content) → IsInput s input → HasFrameFault r s fault)
  IsNoFrameSource input _ = ⊥

  -- the plan over frames of the program of the one input, on the datapath of the other
  pub record IsInputFramePlan (source datapath : Input) (planned : Planned) : Type 0 where
    pub program : Program
    pub graph : Graph
    pub source_is : IsFrameSource source program graph
    pub path_is : IsPathIn datapath planned.path
    pub allowed : IsDatapath planned.path
    pub plan : IsPlan graph planned.path planned.plan

  -- why the inputs have none
  abbrev pub IsNoInputFramePlan : Input → Input → Status → Type 0
  IsNoInputFramePlan = IsNoInputPlanOf IsFrameRefusal (IsFrameRefused r)

  -- the plan over frames of the program of SRC, on the datapath of DP, which were read through
  pub record IsReadFramePlan (src datapath : Name) (old new : View) (planned : Planned) : Type 0 where
    pub read : IsReadThrough datapath text_limit old new
    pub program : Program
    pub graph : Graph
    pub keeps : IsGraphForFrames r program graph
    pub allowed : IsDatapath planned.path
    pub plan : IsPlan graph planned.path planned.plan
    pub specified :
        WhereSpecified old (λ files.
        IsFramedOver r (content_of (files src)) (content_of (files datapath)) program planned.path planned.plan)
