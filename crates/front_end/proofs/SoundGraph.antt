-- The graph of a program is sound, and has no delay-free loop.
use Rattle.std.proofs.Common.{ℕ, List}
use Rattle.silage_syntax.specs.Tree.{Program}
use Rattle.signal_graph.specs.FlatRules.{IsFlat}
use Rattle.signal_graph.specs.FlatSolves.{IsFlatLoopless}
use Rattle.signal_graph.specs.GraphRules.{IsGraph}
use Rattle.signal_graph.specs.GraphSolves.{IsGraphLoopless}
use Rattle.signal_graph.specs.declared.graph.Graph.{Graph}
use Rattle.signal_graph.proofs.GraphSound.{graph_is_sound}
use Rattle.signal_graph.proofs.GraphLoopless.{graph_is_loopless}
use Rattle.signal_graph.proofs.PrunedSound.{pruned_is_sound, pruned_is_loopless}
use Rattle.loop_expand.specs.Checked.{IsChecked}
use Rattle.loop_expand.proofs.SmallFlat.{flat_is_sound}
use Rattle.loop_expand.proofs.SoundFlat.{flat_loopless}
use Rattle.source_faults.specs.Faults.{HasProgram}
use Rattle.front_end.specs.GraphOf.{IsProgramGraph}
use Rattle.front_end.proofs.Counts.{checked}

module _ (source : List ℕ) (p : Program) (has : HasProgram source p) (g : Graph) (graph_of : IsProgramGraph p g) where
  is_checked : IsChecked p
  is_checked = checked source p has.read (record { names = has.names; elements = has.elements; types = has.types })

  is_flat : IsFlat graph_of.expanded
  is_flat =
      let its = graph_of.flat_program in
      flat_is_sound p is_checked its.elements its.expansion graph_of.expanded its.flat_of

  flat_free : IsFlatLoopless graph_of.expanded
  flat_free =
      let its = graph_of.flat_program in
      (flat_loopless p is_checked its.elements its.expansion graph_of.expanded its.flat_of).0 has.loops

  whole_sound : IsGraph graph_of.graph.whole
  whole_sound = graph_is_sound graph_of.expanded graph_of.graph.whole graph_of.graph.graph_of is_flat

  pub program_graph_sound : IsGraph g
  program_graph_sound = pruned_is_sound graph_of.graph.whole g whole_sound graph_of.graph.pruned

  pub program_graph_loopless : IsGraphLoopless g
  program_graph_loopless =
      pruned_is_loopless graph_of.graph.whole g whole_sound graph_of.graph.pruned
      (graph_is_loopless graph_of.expanded is_flat flat_free graph_of.graph.whole graph_of.graph.graph_of)
