-- The program of a source has one flat program and one graph at most.
use Rattle.std.proofs.Common.{◌≡◌, subst, ℕ, List}
use Rattle.silage_syntax.specs.Tree.{Program}
use Rattle.element_rules.specs.declared.elements.Elements.{Elements}
use Rattle.signal_graph.specs.Flat as flat
use Rattle.signal_graph.specs.GraphOf.{IsGraphOf}
use Rattle.signal_graph.specs.Pruned.{IsPruned}
use Rattle.signal_graph.specs.declared.graph.Graph.{Graph}
use Rattle.signal_graph.proofs.OneGraph.{one_graph}
use Rattle.signal_graph.proofs.OnePruned.{one_pruned}
use Rattle.loop_expand.specs.Checked.{IsChecked}
use Rattle.loop_expand.specs.FlatOf.{IsFlatOf}
use Rattle.loop_expand.proofs.OneFlat.{one_flat}
use Rattle.source_faults.specs.Faults.{HasProgram}
use Rattle.front_end.specs.GraphOf.{IsProgramGraph}
use Rattle.front_end.specs.ProgramFlat.{IsProgramFlat}
use Rattle.front_end.proofs.Counts.{checked}
use Rattle.front_end.proofs.FirstLoops.{one_expansion}

module _ (p : Program) (is_checked : IsChecked p) where
  flat_same : (f h : flat.Program) → IsProgramFlat p f → IsProgramFlat p h → f ≡ h
  flat_same f h a b =
      let expansions : a.elements ≡ b.elements = one_expansion p a.elements b.elements a.expansion b.expansion in
      one_flat p is_checked b.elements b.expansion f h
      (subst (λ (es : Elements). IsFlatOf p es f) expansions a.flat_of) b.flat_of

  graph_same : (g h : Graph) → IsProgramGraph p g → IsProgramGraph p h → g ≡ h
  graph_same g h a b =
      let flats : a.expanded ≡ b.expanded = flat_same a.expanded b.expanded a.flat_program b.flat_program in
      let wholes : a.graph.whole ≡ b.graph.whole =
      one_graph b.expanded a.graph.whole b.graph.whole
      (subst (λ (f : flat.Program). IsGraphOf f a.graph.whole) flats a.graph.graph_of) b.graph.graph_of in
      one_pruned b.graph.whole g h (subst (λ (whole : Graph). IsPruned whole g) wholes a.graph.pruned) b.graph.pruned

pub program_graph_once : (source : List ℕ) (p : Program)
    → HasProgram source p
    → (g h : Graph)
    → IsProgramGraph p g
    → IsProgramGraph p h
    → g ≡ h
program_graph_once source p has =
    graph_same p
    (checked source p has.read (record { names = has.names; elements = has.elements; types = has.types }))

pub program_flat_once : (source : List ℕ) (p : Program)
    → HasProgram source p
    → (f h : flat.Program)
    → IsProgramFlat p f
    → IsProgramFlat p h
    → f ≡ h
program_flat_once source p has =
    flat_same p (checked source p has.read (record { names = has.names; elements = has.elements; types = has.types }))
