-- A source has a plan over frames or one refusal.
use Rattle.std.proofs.Common.{◌≡◌, ◌∙◌, refl, sym, ap, subst}
use Rattle.datapath.specs.Described.{IsPathOf}
use Rattle.datapath.specs.PathRules.{IsPathFault}
use Rattle.datapath.specs.declared.fault.PathFault.{PathFault}
use Rattle.datapath.specs.declared.types.Datapath.{Datapath}
use Rattle.datapath.proofs.DescribedPath.{one_path}
use Rattle.desk_core.specs.View.{Content}
use Rattle.frame_command.specs.FrameGraphs.{IsFrameGraph}
use Rattle.frame_command.specs.FramePlans.{HasFrameFault, HasFrames, IsFrameable, IsUnframed, IsFrameRefusal}
use Rattle.frame_command.specs.FramePlans.{IsFrameRefused}
use Rattle.frame_command.proofs.OneFrameGraph.{fault_here, frame_graph_sound, frame_graph_loopless}
use Rattle.frame_command.proofs.OneFrameGraph.{frame_graph_once}
use Rattle.front_end.specs.ProgramFlat.{IsProgramFlat}
use Rattle.front_end.proofs.OneAnswer.{one_program, no_fault}
use Rattle.plan_commands.specs.Plans.{IsUnplanned}
use Rattle.plan_commands.proofs.Complete.{path_allowed}
use Rattle.plan_commands.proofs.OneFault.{one_source_fault, one_path_fault, path_or_not}
use Rattle.plan_commands.proofs.PlanAnswers.{fault_for}
use Rattle.planner.proofs.OneOutcome.{plan_or_not}
use Rattle.planner.proofs.OnePlan.{one_plan_fault}
use Rattle.rate_faults.specs.declared.FrameFault.{FrameFault}
use Rattle.rate_unfold.specs.Faults.{HasNoFrameFault}
use Rattle.rate_unfold.specs.Frames.{Rates, AreRates}
use Rattle.rate_unfold.proofs.OneFault.{no_fault as no_frame_fault, one_fault as one_frame_fault}
use Rattle.signal_graph.specs.Flat as flat
use Rattle.signal_graph.specs.declared.graph.Graph.{Graph}
use Rattle.silage_syntax.specs.Tree.{Program}
use Rattle.source_faults.specs.Faults.{HasProgram, IsFrontFault, IsOfSource}
use Rattle.source_faults.specs.declared.fault.FrontFault.{FrontFault}
use Rattle.statuses.specs.Faults.{of_plan}
use Rattle.statuses.specs.declared.status.Status.{Status}
use Rattle.statuses.specs.declared.status.Status.TheVariants.{FrontEnd, Frame, Path}
use Rattle.statuses.specs.declared.status.Status.TheVariants.{LinesFull, Period, FileFull}
use Rattle.statuses.specs.declared.status.Status.TheVariants as status

module _ (r : Rates) (s d : Content) where
  -- what is refused: the source, its frames, the datapath, or the graph
  data Cause (why : Status) : Type 0 where
    of_source : (fault : FrontFault) → IsOfSource fault → IsFrontFault s fault → why ≡ FrontEnd fault → Cause why
    of_frames : (fault : FrameFault) → HasFrameFault r s fault → why ≡ Frame fault → Cause why
    of_datapath : (fault : PathFault) → HasFrames r s → IsPathFault d fault → why ≡ Path fault → Cause why
    of_graph : IsUnframed r why s d → Cause why

  cause : (why : Status) → IsFrameRefusal why → IsFrameRefused r why s d → Cause why
  cause (FrontEnd fault) is h = of_source fault is h refl
  cause (Frame fault) is h = of_frames fault h refl
  cause (Path fault) is h = of_datapath fault h.0 h.1 refl
  cause (status.Unit refusal) is h = of_graph h
  cause (LinesFull v) is h = of_graph h
  cause (Period v) is h = of_graph h
  cause (FileFull u port v) is h = of_graph h
  cause other is h = absurd is

  -- frames that fit have no fault
  fits_here : (program : Program) (f : flat.Program)
      → HasProgram s program
      → IsProgramFlat program f
      → HasNoFrameFault r f
      → (fault : FrameFault)
      → HasFrameFault r s fault
      → ⊥
  fits_here program f read flat_of fits fault bad =
      no_frame_fault r f fits fault (fault_here s program read r f flat_of fault bad)

  fits_over : (why : Status) → IsUnframed r why s d → (fault : FrameFault) → HasFrameFault r s fault → ⊥
  fits_over why over =
      fits_here over.program over.graph_of.flat_program over.read over.graph_of.flat_of over.graph_of.graph_of.fits

  one_fault_here : (f g : FrameFault) → HasFrameFault r s f → HasFrameFault r s g → f ≡ g
  one_fault_here f g has have =
      one_frame_fault r has.flat_program f g has.fault_is
      (fault_here s has.program has.read r has.flat_program has.flat_of g have)

  module _ (are : AreRates r) where
    -- the graph over frames of the program has what the source is refused for
    module _ (program : Program) (read : HasProgram s program) (g : Graph) (graph_of : IsFrameGraph r program g)
        (at : Datapath) (described : IsPathOf d at) where
      same_graph : (other : Program) → HasProgram s other → (h : Graph) → IsFrameGraph r other h → h ≡ g
      same_graph other has h its =
          frame_graph_once s program read r are h g
          (subst (λ (p : Program). IsFrameGraph r p h) (one_program s program other read has) its) graph_of

      by : (why : Status) → Cause why → IsUnplanned why g at
      by why (of_source f ours has e) = absurd (no_fault s program read f has)
      by why (of_frames f bad e) =
          absurd (fits_here program graph_of.flat_program read graph_of.flat_of graph_of.graph_of.fits f bad)
      by why (of_datapath f frames has e) = absurd (path_or_not d at described f has)
      by why (of_graph over) =
          subst (λ (z : Datapath). IsUnplanned why g z) (one_path d over.path at over.described described)
          (subst (λ (h : Graph). IsUnplanned why h over.path)
          (same_graph over.program over.read over.graph over.graph_of) over.unplanned)

      pub its_frame_refusal : (why : Status) → IsFrameRefusal why → IsFrameRefused r why s d → IsUnplanned why g at
      its_frame_refusal why is h = by why (cause why is h)

    -- a source that has a plan is not refused
    pub never_frame_refused : IsFrameable r s d
        → (why : Status)
        → IsFrameRefusal why
        → IsFrameRefused r why s d
        → ⊥
    never_frame_refused (program, at, plan, over) why is h =
        let fault =
        fault_for over.graph at why
        (its_frame_refusal program over.read over.graph over.graph_of at over.described why is h) in
        plan_or_not over.graph at (path_allowed d at over.described)
        (frame_graph_sound s program over.read r are over.graph over.graph_of)
        (frame_graph_loopless s program over.read r are over.graph over.graph_of) plan over.planned fault.0 fault.1

    module _ (why other : Status) (is : IsFrameRefusal other) (h : IsFrameRefused r other s d) where
      one_unframed : IsUnframed r why s d → why ≡ other
      one_unframed over =
          let its =
          its_frame_refusal over.program over.read over.graph over.graph_of over.path over.described other is h in
          let (fault, is_fault, again) = fault_for over.graph over.path why over.unplanned in
          let (second, is_second, second_again) = fault_for over.graph over.path other its in
          sym again
          ∙ ap of_plan (one_plan_fault over.graph over.path (path_allowed d over.path over.described)
          (frame_graph_sound s over.program over.read r are over.graph over.graph_of)
          (frame_graph_loopless s over.program over.read r are over.graph over.graph_of) fault second is_fault
          is_second)
          ∙ second_again

      one_cause : Cause why → Cause other → why ≡ other
      one_cause (of_source f ours has e) (of_source g its have k) =
          e ∙ ap FrontEnd (one_source_fault s f g ours has have) ∙ sym k
      one_cause (of_source f ours has e) (of_frames g bad k) = absurd (no_fault s bad.program bad.read f has)
      one_cause (of_source f ours has e) (of_datapath g frames have k) =
          absurd (no_fault s frames.program frames.read f has)
      one_cause (of_source f ours has e) (of_graph over) = absurd (no_fault s over.program over.read f has)
      one_cause (of_frames f bad e) (of_source g its have k) = absurd (no_fault s bad.program bad.read g have)
      one_cause (of_frames f bad e) (of_frames g worse k) = e ∙ ap Frame (one_fault_here f g bad worse) ∙ sym k
      one_cause (of_frames f bad e) (of_datapath g frames have k) =
          absurd (fits_here frames.program frames.flat_program frames.read frames.flat_of frames.fits f bad)
      one_cause (of_frames f bad e) (of_graph over) = absurd (fits_over other over f bad)
      one_cause (of_datapath f frames has e) (of_source g its have k) =
          absurd (no_fault s frames.program frames.read g have)
      one_cause (of_datapath f frames has e) (of_frames g bad k) =
          absurd (fits_here frames.program frames.flat_program frames.read frames.flat_of frames.fits g bad)
      one_cause (of_datapath f frames has e) (of_datapath g others have k) =
          e ∙ ap Path (one_path_fault d f g has have) ∙ sym k
      one_cause (of_datapath f frames has e) (of_graph over) = absurd (path_or_not d over.path over.described f has)
      one_cause (of_graph over) (of_source g its have k) = absurd (no_fault s over.program over.read g have)
      one_cause (of_graph over) (of_frames g bad k) = absurd (fits_over why over g bad)
      one_cause (of_graph over) (of_datapath g frames have k) = absurd (path_or_not d over.path over.described g have)
      one_cause (of_graph over) (of_graph its) = one_unframed over

    pub frame_one_refusal : (why other : Status)
        → IsFrameRefusal why
        → IsFrameRefused r why s d
        → IsFrameRefusal other
        → IsFrameRefused r other s d
        → why ≡ other
    frame_one_refusal why other ours has is h = one_cause why other is h (cause why ours has) (cause other is h)
