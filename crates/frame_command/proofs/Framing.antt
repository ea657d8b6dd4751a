-- How the parts of a plan over frames give it, or the status that tells why there is none.
use Rattle.std.proofs.Common.{◌≡◌, ◌⊎◌, refl, sym, subst, inl, inr, ⊎_elim, Result, Ok, Err}
use Rattle.std.specs.Prelude.{IfOk}
use Rattle.datapath.specs.Allowed.{IsDatapath}
use Rattle.datapath.specs.declared.types.Datapath.{Datapath}
use Rattle.desk_core.specs.View.{Name, Content, View}
use Rattle.desk_core.specs.Desk.{content_of}
use Rattle.frame_command.specs.FrameGraphs.{IsGraphOfFrames}
use Rattle.frame_command.specs.FramePlans.{HasFrameFault, HasFrames, IsUnframed}
use Rattle.frame_command.specs.Planning.{IsFlatIn, KeepsFrameRows, IsFrameSource, HasFrameGraph, IsNoFrameSource}
use Rattle.frame_command.specs.Planning.{IsInputFramePlan, IsNoInputFramePlan, IsReadFramePlan}
use Rattle.frame_command.proofs.FrameGraphs.{graph_for_frames}
use Rattle.front_end.specs.ProgramFlat.{IsProgramFlat, KeepsFlatProgram}
use Rattle.front_end.proofs.OneAnswer.{one_program}
use Rattle.plan_commands.specs.Planning.{AreRead, IsNoSource, IsNoPath, IsPathIn, IsWithoutPlan}
use Rattle.plan_commands.specs.Plans.{IsUnplanned}
use Rattle.plan_commands.specs.declared.planning.Inputs.{Inputs}
use Rattle.plan_commands.specs.declared.planning.Planned.{Planned}
use Rattle.plan_core.specs.IsPlan.{IsPlan}
use Rattle.rate_faults.specs.declared.FrameFault.{FrameFault}
use Rattle.rate_faults.specs.declared.FrameFault.TheVariants as frame
use Rattle.rate_unfold.specs.Faults.{IsFrameFault}
use Rattle.rate_unfold.specs.Frames.{Rates}
use Rattle.signal_graph.specs.Flat as flat
use Rattle.signal_graph.specs.FlatRules.{IsFlat}
use Rattle.signal_graph.specs.FlatSolves.{IsFlatLoopless}
use Rattle.signal_graph.specs.GraphRules.{IsGraph}
use Rattle.signal_graph.specs.GraphSolves.{IsGraphLoopless}
use Rattle.signal_graph.specs.declared.graph.Graph.{Graph}
use Rattle.silage_syntax.specs.Tree.{Program}
use Rattle.silc_files.specs.Reading.{IsInput}
use Rattle.silc_files.specs.declared.files.Input.{Input}
use Rattle.silc_files.specs.declared.files.Input.TheVariants.{Whole}
use Rattle.source_faults.specs.Faults.{HasProgram}
use Rattle.statuses.specs.Faults.{of_frame}
use Rattle.statuses.specs.declared.status.Ending.{Ending}
use Rattle.statuses.specs.declared.status.Status.{Status}
use Rattle.statuses.specs.declared.status.Status.TheVariants.{Memory, FrontEnd, Frame, Path}
use Rattle.statuses.specs.declared.status.Status.TheVariants.{LinesFull, Period, FileFull}
use Rattle.statuses.specs.declared.status.Status.TheVariants as status

-- the program of bytes is that of their input
pub flat_source : (bytes : Content) (p : Program) (f : flat.Program)
    → HasProgram bytes p
    → IsProgramFlat p f
    → IsFlat f
    → IsFlatLoopless f
    → KeepsFlatProgram p f
    → IsFlatIn (Whole bytes) p f
flat_source bytes p f has flat_of sound loopless keeps = record {
  source_is = λ s is. subst (λ (content : Content). HasProgram content p) is has;
  flat_of = flat_of;
  sound = sound;
  loopless = loopless;
  keeps = keeps;
}

module _ (r : Rates) where
  -- the graph over frames of the flat program is that of the input
  pub frame_source : (input : Input) (p : Program) (f : flat.Program)
      → IsFlatIn input p f
      → (g : Graph)
      → IsGraphOfFrames r f g
      → IsGraph g
      → IsGraphLoopless g
      → KeepsFrameRows r f g
      → HasFrameGraph r input g
  frame_source input p f is g graph_of sound loopless keeps = (
    p,
    record {
      source_is = is.source_is;
      graph_of = record { flat_program = f; flat_of = is.flat_of; graph_of = graph_of };
      keeps = graph_for_frames r input p f is g keeps sound loopless;
    },
  )

  -- why the source has no program is why it has no graph over frames
  pub no_source : (input : Input) (status : Status) → IsNoSource input status → IsNoFrameSource r input status
  no_source input Memory h = tt
  no_source input (FrontEnd fault) h = h
  no_source input other h = absurd h

  -- a fault of the flat program's frames is why the input has none
  module _ (input : Input) (p : Program) (f : flat.Program) (is : IsFlatIn input p f) where
    own : (fault : FrameFault)
        → (fault ≡ frame.Memory) ⊎ IsFrameFault r f fault
        → (fault ≡ frame.Memory → ⊥)
        → (s : Content)
        → IsInput s input
        → HasFrameFault r s fault
    own fault h other s its = record {
      program = p;
      read = is.source_is s its;
      flat_program = f;
      flat_of = is.flat_of;
      fault_is = ⊎_elim (λ memory. absurd (other memory)) (λ has. has) h;
    }

    pub frame_fault : (fault : FrameFault)
        → (fault ≡ frame.Memory) ⊎ IsFrameFault r f fault
        → IsNoFrameSource r input (of_frame fault)
    frame_fault (frame.Word j) h = (tt, own (frame.Word j) h (λ e. cc))
    frame_fault frame.Ports h = (tt, own frame.Ports h (λ e. cc))
    frame_fault frame.Weight h = (tt, own frame.Weight h (λ e. cc))
    frame_fault frame.Memory h = tt

  -- why the source has no graph over frames is why the inputs have no plan
  pub no_frames : (source datapath : Input) (status : Status)
      → IsNoFrameSource r source status
      → IsNoInputFramePlan r source datapath status
  no_frames source datapath Memory h = inl refl
  no_frames source datapath (FrontEnd fault) h = inr (h.0, λ s d hs hd. h.1 s hs)
  no_frames source datapath (Frame fault) h = inr (h.0, λ s d hs hd. h.1 s hs)
  no_frames source datapath other h = absurd h

  module _ (source datapath : Input) (g : Graph) (has : HasFrameGraph r source g) where
    abbrev program : Program
    program = has.0

    abbrev its : IsFrameSource r source program g
    its = has.1

    frames : (s : Content) → IsInput s source → HasFrames r s
    frames s hs = record {
      program = program;
      read = its.source_is s hs;
      flat_program = its.graph_of.flat_program;
      flat_of = its.graph_of.flat_of;
      fits = its.graph_of.graph_of.fits;
    }

    -- why the file describes no datapath is why the inputs have no plan
    pub no_path : (status : Status) → IsNoPath datapath status → IsNoInputFramePlan r source datapath status
    no_path Memory h = inl refl
    no_path (Path fault) h = inr (h.0, λ s d hs hd. (frames s hs, h.1 d hd))
    no_path other h = absurd h

    module _ (path : Datapath) (is_path : IsPathIn datapath path) where
      unframed : (status : Status)
          → IsUnplanned status g path
          → (s d : Content)
          → IsInput s source
          → IsInput d datapath
          → IsUnframed r status s d
      unframed status is s d hs hd = record {
        program = program;
        read = its.source_is s hs;
        graph = g;
        graph_of = its.graph_of;
        path = path;
        described = is_path d hd;
        unplanned = is;
      }

      refused : (status : Status) → IsUnplanned status g path → IsNoInputFramePlan r source datapath status
      refused (status.Unit reason) is = inr (tt, unframed (status.Unit reason) is)
      refused (LinesFull node) is = inr (tt, unframed (LinesFull node) is)
      refused (Period node) is = inr (tt, unframed (Period node) is)
      refused (FileFull u port node) is = inr (tt, unframed (FileFull u port node) is)
      refused other is = absurd is

      -- why the graph has no plan is why the inputs have none
      pub no_plan : (status : Status) → IsWithoutPlan g path status → IsNoInputFramePlan r source datapath status
      no_plan status = ⊎_elim (λ memory. inl memory) (refused status)

      -- the plan of the graph is that of the inputs
      pub input_plan : IsDatapath path
          → (result : Result Planned Ending)
          → IfOk result (λ (planned : Planned). planned.path ≡ path)
          → IfOk result (λ (planned : Planned). IsPlan g path planned.plan)
          → IfOk result (IsInputFramePlan r source datapath)
      input_plan allowed (Ok planned) same plan = record {
        program = program;
        graph = g;
        source_is = its;
        path_is = subst (IsPathIn datapath) (sym same) is_path;
        allowed = subst IsDatapath (sym same) allowed;
        plan = subst (λ (d : Datapath). IsPlan g d planned.plan) (sym same) plan;
      }
      input_plan allowed (Err ending) same plan = tt

  -- the plan that inputs have is that of the files that they were read from
  pub read_plan : (src datapath : Name) (old new : View) (inputs : Inputs)
      → AreRead src datapath old new inputs
      → (planned : Planned)
      → IsInputFramePlan r inputs.source inputs.datapath planned
      → IsReadFramePlan r src datapath old new planned
  read_plan src datapath old new inputs are planned h = record {
    read = are.read;
    program = h.program;
    graph = h.graph;
    keeps = h.source_is.keeps;
    allowed = h.allowed;
    plan = h.plan;
    specified = λ files is.
        let read = h.source_is.source_is (content_of (files src)) (are.source_is files is) in
        record {
          has = record {
            read = read;
            described = h.path_is (content_of (files datapath)) (are.datapath_is files is);
            graph = h.graph;
            graph_of = h.source_is.graph_of;
            planned = h.plan;
          };
          unique = λ other theirs. one_program (content_of (files src)) h.program other read theirs;
        };
  }
