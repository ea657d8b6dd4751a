-- The pruned graph of a flat program keeps its solutions.
use Rattle.std.proofs.Common.{◌∙◌, arith, length}
use Rattle.recurrences.proofs.Kept.{keeps_through}
use Rattle.signal_graph.specs.Flat.{Program}
use Rattle.signal_graph.specs.FlatRules.{IsFlat}
use Rattle.signal_graph.specs.FlatSolves.{flat_system, IsFlatLoopless}
use Rattle.signal_graph.specs.GraphSolves.{graph_system}
use Rattle.signal_graph.specs.Keeps.{AreEqualWords, AreKeptWords}
use Rattle.signal_graph.specs.declared.graph.Graph.{Graph}
use Rattle.signal_graph.proofs.GraphKeeps.{graph_keeps}
use Rattle.signal_graph.proofs.GraphLoopless.{graph_is_loopless}
use Rattle.signal_graph.proofs.GraphSound.{graph_is_sound}
use Rattle.signal_graph.proofs.PrunedKeeps.{pruned_keeps}
use Rattle.flow_graph.specs.PrunedGraph.{IsPrunedGraphOf, KeepsFlatRows}

pub keeps_rows : (p : Program) (g : Graph)
    → IsFlat p
    → IsFlatLoopless p
    → IsPrunedGraphOf p g
    → KeepsFlatRows p g
keeps_rows p g sound loopless is stream rows =
    let prunes =
    pruned_keeps is.whole g (graph_is_sound p is.whole is.graph_of sound)
    (graph_is_loopless p sound loopless is.whole is.graph_of) is.pruned in
    let both =
    keeps_through (flat_system p stream) (graph_system is.whole stream) (graph_system g stream)
    (AreEqualWords p is.whole stream) (AreKeptWords is.whole g stream)
    ((graph_keeps p is.whole is.graph_of sound loopless).solutions stream rows) (prunes.solutions stream) in
    record {
      forth = λ words solves.
          let (others, one, (nodes, a, b)) = both.forth words solves in
          (others, one, b.rows (length stream) (omega arith) ∙ a.rows (length stream) (omega arith));
      back = λ others solves.
          let (words, one, (nodes, a, b)) = both.back others solves in
          (words, one, b.rows (length stream) (omega arith) ∙ a.rows (length stream) (omega arith));
    }
