-- Where a frame is one sample, `frame` is `compile`.
use Rattle.std.proofs.Common.{◌≡◌, ℕ, List, [], map, ap, ap₂, ◌∙◌, subst, inl, inr, arith}
use Rattle.desk_core.specs.View.{Name, Content, View}
use Rattle.desk_core.specs.Desk.{content_of}
use Rattle.flow_graph.specs.PrunedGraph.{IsPrunedGraphOf}
use Rattle.frame_command.specs.Frame.{IsFramed, AreFramed, IsFrameAnswer, IsCompiledToo}
use Rattle.frame_command.specs.FrameGraphs.{IsFrameGraph}
use Rattle.rate_unfold.specs.Frames.{rates}
use Rattle.frame_command.specs.FramePlans.{IsUnframed, IsFrameRefusal, IsFrameRefused, IsFrameError}
use Rattle.frame_command.proofs.OneFrameGraph.{flat_sound, flat_free}
use Rattle.front_end.specs.GraphOf.{IsProgramGraph}
use Rattle.front_end.proofs.Graphs.{graph_keeps_program}
use Rattle.front_end.proofs.SoundGraph.{program_graph_sound, program_graph_loopless}
use Rattle.loop_expand.specs.GraphFor.{IsGraphFor}
use Rattle.microcode_asm.proofs.ReadyPlans.{planned_runs}
use Rattle.plan_commands.specs.Compile.{AreCompiled, IsWrittenOf, IsWriteCutShortOf}
use Rattle.plan_commands.specs.Headline.{IsCompiled}
use Rattle.plan_commands.specs.Plans.{IsUnplannedOver}
use Rattle.plan_commands.specs.Refusals.{IsRefusal, IsRefused, IsPlanError}
use Rattle.plan_commands.proofs.Compiled.{runs_the_solution}
use Rattle.plan_commands.proofs.Complete.{path_allowed}
use Rattle.plan_soundness.specs.ImageOf.{width_of}
use Rattle.rate_unfold.proofs.OnePhase.{one_phase, same_program}
use Rattle.rate_unfold.proofs.OneUnfolded.{one_unfolded}
use Rattle.signal_graph.specs.Flat as flat
use Rattle.signal_graph.specs.declared.graph.Graph.{Graph}
use Rattle.silage_syntax.specs.Tree.{Program}
use Rattle.source_faults.specs.Faults.{HasProgram}
use Rattle.statuses.specs.declared.status.Status.{Status}
use Rattle.statuses.specs.declared.status.Status.TheVariants.{Done, Desk, FrontEnd, Frame, Path}
use Rattle.statuses.specs.declared.status.Status.TheVariants.{LinesFull, Period, FileFull}
use Rattle.statuses.specs.declared.status.Status.TheVariants as status

module _ (s : Content) (p : Program) (has : HasProgram s p) (g : Graph) (graph_of : IsFrameGraph one_phase p g) where
  -- the graph over frames is the program's own
  own_graph : IsPrunedGraphOf graph_of.flat_program g
  own_graph =
      let f = graph_of.flat_program in
      let its = graph_of.graph_of in
      subst (λ (u : flat.Program). IsPrunedGraphOf u g)
      (one_unfolded one_phase f (flat_sound s p has f graph_of.flat_of) (omega arith) its.unfolded its.unfolded_of
      ∙ same_program f) its.graph

  program_graph : IsProgramGraph p g
  program_graph =
      record { expanded = graph_of.flat_program; flat_program = graph_of.flat_of; graph = own_graph }

  graph_for : IsGraphFor p g
  graph_for = record {
    sound = program_graph_sound s p has g program_graph;
    loopless = program_graph_loopless s p has g program_graph;
    keeps = graph_keeps_program s p has graph_of.flat_program graph_of.flat_of
        (flat_free s p has graph_of.flat_program graph_of.flat_of) g own_graph;
  }

-- so the microcode is that of `compile`
pub compiled_too : (s d microcode : Content) → IsFramed one_phase s d microcode → IsCompiled s d microcode
compiled_too s d microcode is =
    let over = is.planned.has in
    let graph = graph_for s is.program over.read over.graph over.graph_of in
    record {
      program = is.program;
      path = is.path;
      plan = is.plan;
      planned = record {
        has = record {
          read = over.read;
          described = over.described;
          graph = over.graph;
          graph_of = program_graph s is.program over.read over.graph over.graph_of;
          planned = over.planned;
        };
        unique = is.planned.unique;
      };
      image = is.image;
      image_of = is.image_of;
      spelled = is.spelled;
      short = is.short;
      inputs = is.image_of.inputs ∙ ap (map width_of) (over.planned.inputs ∙ graph.keeps.inputs);
      outs = is.image_of.outs ∙ over.planned.outs ∙ graph.keeps.outs;
      runs =
          runs_the_solution is.program over.graph is.image graph
          (planned_runs over.graph is.path is.plan is.image (path_allowed d is.path over.described) graph.sound
          over.planned is.image_of);
      period = is.period;
    }

-- and so is the refusal of the graph
unplanned_too : (why : Status) (s d : Content) → IsUnframed one_phase why s d → IsUnplannedOver why s d
unplanned_too why s d over = record {
  program = over.program;
  read = over.read;
  graph = over.graph;
  graph_of = program_graph s over.program over.read over.graph over.graph_of;
  path = over.path;
  described = over.described;
  unplanned = over.unplanned;
}

module _ (src datapath out : Name) (old new : View) where
  error_too : (error : Status)
      → (IsFrameRefusal error → IsRefusal error)
      → ((s d : Content) → IsFrameRefusal error → IsFrameRefused one_phase error s d → IsRefused error s d)
      → IsFrameError one_phase src datapath old new error
      → IsPlanError src datapath old new error
  error_too error is told (inl memory) = inl memory
  error_too error is told (inr (inl unread)) = inr (inl unread)
  error_too error is told (inr (inr h)) = inr (inr (
    is h.0,
    record {
      unchanged = h.1.unchanged;
      read = h.1.read;
      why = λ files specified.
          told (content_of (files src)) (content_of (files datapath)) h.0 (h.1.why files specified);
    },
  ))

  of_graph : (error : Status)
      → (IsFrameRefusal error → IsRefusal error)
      → ((s d : Content) → IsFrameRefused one_phase error s d → IsUnframed one_phase error s d)
      → ((s d : Content) → IsUnplannedOver error s d → IsRefused error s d)
      → IsFrameError one_phase src datapath old new error
      → IsPlanError src datapath old new error
  of_graph error is unframed refused =
      error_too error is (λ s d its told. refused s d (unplanned_too error s d (unframed s d told)))

  written_too : IsWrittenOf (AreFramed one_phase src datapath) datapath out old new
      → IsWrittenOf (AreCompiled src datapath) datapath out old new
  written_too h = record {
    finished = h.finished;
    microcode = h.microcode;
    compiled = λ files is.
        compiled_too (content_of (files src)) (content_of (files datapath)) h.microcode (h.compiled files is);
    put = h.put;
  }

  cut_too : IsWriteCutShortOf (AreFramed one_phase src datapath) datapath out old new
      → IsWriteCutShortOf (AreCompiled src datapath) datapath out old new
  cut_too h = record {
    microcode = h.microcode;
    compiled = λ files is.
        compiled_too (content_of (files src)) (content_of (files datapath)) h.microcode (h.compiled files is);
    written = h.written;
  }

  one_sample : (answer : Status)
      → IsFrameAnswer one_phase src datapath out old new answer
      → IsCompiledToo src datapath out old new answer
  one_sample (Frame fault) h = tt
  one_sample Done h = written_too h
  one_sample Desk (inl early) = inl (error_too Desk (λ is. is) (λ s d is told. absurd is) early)
  one_sample Desk (inr cut) = inr (cut_too cut)
  one_sample (FrontEnd fault) h = error_too (FrontEnd fault) (λ is. is) (λ s d is told. told) h
  one_sample (Path fault) h =
      error_too (Path fault) (λ is. is) (λ s d is told. ((told.0.program, told.0.read), told.1)) h
  one_sample (status.Unit why) h = of_graph (status.Unit why) (λ is. is) (λ s d told. told) (λ s d told. told) h
  one_sample (LinesFull node) h = of_graph (LinesFull node) (λ is. is) (λ s d told. told) (λ s d told. told) h
  one_sample (Period node) h = of_graph (Period node) (λ is. is) (λ s d told. told) (λ s d told. told) h
  one_sample (FileFull u port node) h =
      of_graph (FileFull u port node) (λ is. is) (λ s d told. told) (λ s d told. told) h
  one_sample other h = error_too other (λ is. is) (λ s d is told. absurd is) h

  pub one_phase_compiles : (phases : ℕ) (down up : List ℕ)
      → phases ≡ 1
      → down ≡ []
      → up ≡ []
      → (answer : Status)
      → IsFrameAnswer (rates phases down up) src datapath out old new answer
      → IsCompiledToo src datapath out old new answer
  one_phase_compiles phases down up one no_down no_up answer h =
      let same : rates phases down up ≡ one_phase =
      ap (λ (n : ℕ). rates n down up) one ∙ ap₂ (rates 1) no_down no_up in
      one_sample answer (subst (λ r. IsFrameAnswer r src datapath out old new answer) same h)
