-- The graph over frames of the program of a source: it is one, sound and without a delay-free loop.
use Rattle.std.proofs.Common.{◌≡◌, ℕ, List, sym, ap, ◌∙◌, subst}
use Rattle.frame_command.specs.FrameGraphs.{IsGraphOfFrames, IsFrameGraph}
use Rattle.frame_command.specs.FramePlans.{HasFrameFault}
use Rattle.front_end.specs.ProgramFlat.{IsProgramFlat}
use Rattle.front_end.proofs.Counts.{checked}
use Rattle.front_end.proofs.OneAnswer.{one_program}
use Rattle.front_end.proofs.OneGraph.{program_flat_once}
use Rattle.loop_expand.specs.Checked.{IsChecked}
use Rattle.loop_expand.proofs.SmallFlat.{flat_is_sound}
use Rattle.loop_expand.proofs.SoundFlat.{flat_loopless}
use Rattle.rate_faults.specs.declared.FrameFault.{FrameFault}
use Rattle.rate_unfold.specs.Faults.{IsFrameFault}
use Rattle.rate_unfold.specs.Frames.{Rates, AreRates}
use Rattle.rate_unfold.specs.Private.Unfolding.{unfolded}
use Rattle.rate_unfold.proofs.OneUnfolded.{one_unfolded}
use Rattle.rate_unfold.proofs.UnfoldedLoops.{unfolded_loopless}
use Rattle.rate_unfold.proofs.UnfoldedSound.{unfolded_sound}
use Rattle.signal_graph.specs.Flat as flat
use Rattle.signal_graph.specs.FlatRules.{IsFlat}
use Rattle.signal_graph.specs.FlatSolves.{IsFlatLoopless}
use Rattle.signal_graph.specs.GraphOf.{IsGraphOf}
use Rattle.signal_graph.specs.GraphRules.{IsGraph}
use Rattle.signal_graph.specs.GraphSolves.{IsGraphLoopless}
use Rattle.signal_graph.specs.Pruned.{IsPruned}
use Rattle.signal_graph.specs.declared.graph.Graph.{Graph}
use Rattle.signal_graph.proofs.GraphLoopless.{graph_is_loopless}
use Rattle.signal_graph.proofs.GraphSound.{graph_is_sound}
use Rattle.signal_graph.proofs.OneGraph.{one_graph}
use Rattle.signal_graph.proofs.OnePruned.{one_pruned}
use Rattle.signal_graph.proofs.PrunedSound.{pruned_is_sound, pruned_is_loopless}
use Rattle.silage_syntax.specs.Tree.{Program}
use Rattle.source_faults.specs.Faults.{HasProgram}

module _ (source : List ℕ) (p : Program) (has : HasProgram source p) where
  is_checked : IsChecked p
  is_checked = checked source p has.read (record { names = has.names; elements = has.elements; types = has.types })

  pub flat_sound : (f : flat.Program) → IsProgramFlat p f → IsFlat f
  flat_sound f flat_of = flat_is_sound p is_checked flat_of.elements flat_of.expansion f flat_of.flat_of

  pub flat_free : (f : flat.Program) → IsProgramFlat p f → IsFlatLoopless f
  flat_free f flat_of =
      (flat_loopless p is_checked flat_of.elements flat_of.expansion f flat_of.flat_of).0 has.loops

  module _ (r : Rates) where
    -- the fault of frames is that of this flat program
    pub fault_here : (f : flat.Program)
        → IsProgramFlat p f
        → (fault : FrameFault)
        → HasFrameFault r source fault
        → IsFrameFault r f fault
    fault_here f flat_of fault bad =
        let same : bad.program ≡ p = one_program source p bad.program has bad.read in
        let theirs = subst (λ (q : Program). IsProgramFlat q bad.flat_program) same bad.flat_of in
        subst (λ (h : flat.Program). IsFrameFault r h fault)
        (program_flat_once source p has bad.flat_program f theirs flat_of) bad.fault_is

    module _ (are : AreRates r) where
      its_unfolded : (f : flat.Program)
          → IsProgramFlat p f
          → (g : Graph) (graph_of : IsGraphOfFrames r f g)
          → graph_of.unfolded ≡ unfolded r f
      its_unfolded f flat_of g graph_of =
          one_unfolded r f (flat_sound f flat_of) are.phases.0 graph_of.unfolded graph_of.unfolded_of

      module _ (g : Graph) (graph_of : IsFrameGraph r p g) where
        abbrev f : flat.Program
        f = graph_of.flat_program

        abbrev its : IsGraphOfFrames r f g
        its = graph_of.graph_of

        same : its.unfolded ≡ unfolded r f
        same = its_unfolded f graph_of.flat_of g its

        unfolded_flat : IsFlat its.unfolded
        unfolded_flat =
            subst IsFlat (sym same)
            (unfolded_sound r f (flat_sound f graph_of.flat_of) are.phases.0 its.fits)

        unfolded_free : IsFlatLoopless its.unfolded
        unfolded_free =
            subst IsFlatLoopless (sym same)
            (unfolded_loopless r f (flat_sound f graph_of.flat_of) (flat_free f graph_of.flat_of))

        whole_sound : IsGraph its.graph.whole
        whole_sound = graph_is_sound its.unfolded its.graph.whole its.graph.graph_of unfolded_flat

        pub frame_graph_sound : IsGraph g
        frame_graph_sound = pruned_is_sound its.graph.whole g whole_sound its.graph.pruned

        pub frame_graph_loopless : IsGraphLoopless g
        frame_graph_loopless =
            pruned_is_loopless its.graph.whole g whole_sound its.graph.pruned
            (graph_is_loopless its.unfolded unfolded_flat unfolded_free its.graph.whole its.graph.graph_of)

      pub frame_graph_once : (g h : Graph) → IsFrameGraph r p g → IsFrameGraph r p h → g ≡ h
      frame_graph_once g h a b =
          let flats = program_flat_once source p has a.flat_program b.flat_program a.flat_of b.flat_of in
          let unfoldeds =
          its_unfolded a.flat_program a.flat_of g a.graph_of ∙ ap (unfolded r) flats
          ∙ sym (its_unfolded b.flat_program b.flat_of h b.graph_of) in
          let wholes =
          one_graph b.graph_of.unfolded a.graph_of.graph.whole b.graph_of.graph.whole
          (subst (λ (u : flat.Program). IsGraphOf u a.graph_of.graph.whole) unfoldeds a.graph_of.graph.graph_of)
          b.graph_of.graph.graph_of in
          one_pruned b.graph_of.graph.whole g h
          (subst (λ (whole : Graph). IsPruned whole g) wholes a.graph_of.graph.pruned) b.graph_of.graph.pruned
