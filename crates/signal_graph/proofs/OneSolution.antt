-- A sound flat program or graph without a delay-free loop has exactly one solution over each stream.
use Rattle.std.proofs.Common.{ℕ, ◌<◌, length}
use Rattle.lists.specs.Rows.{Rows}
use Rattle.recurrences.proofs.Determined.{IsDetermined, HasHeights}
use Rattle.signal_graph.specs.declared.graph.Graph.{Graph}
use Rattle.signal_graph.specs.Flat.{Program}
use Rattle.signal_graph.specs.FlatRules.{IsRead, IsFlat}
use Rattle.signal_graph.specs.FlatSolves.{no_element, element_of, ElementReads, flat_system, IsFlatLoopless, FlatSolves}
use Rattle.signal_graph.specs.FlatSolves.{IsOneFlatSolution}
use Rattle.signal_graph.specs.GraphRules.{IsGraph}
use Rattle.signal_graph.specs.GraphSolves.{no_node, node_of, HasEdge, graph_system, IsGraphLoopless, GraphSolves}
use Rattle.signal_graph.specs.GraphSolves.{IsOneGraphSolution}
use Rattle.signal_graph.specs.Values.{Words, body_value, node_value}
use Rattle.signal_graph.proofs.Numbered.{IsLocal, determined, heights, its_solution, once}
use Rattle.signal_graph.proofs.Tests.{body_test, body_yes, body_no, edges_test, edges_yes, edges_no}
use Rattle.signal_graph.proofs.Values.{body_same, body_allowed, node_same, IsEdgeIn, edges_allowed}

module _ (p : Program) (sound : IsFlat p) (stream : Rows) where
  allowed : (e d ago : ℕ) → e < length p.elems → ElementReads p e d ago → IsRead p d ago
  allowed e d ago el r =
      body_allowed p (element_of p e).ty (element_of p e).body d ago (sound.elements e no_element el).body r

  flat_local : IsLocal (length p.elems) (λ e n words. body_value stream words n (element_of p e).body) (ElementReads p)
  flat_local = record {
    same = λ e n x y agree. body_same x y n stream (element_of p e).body agree;
    elements = λ e d ago el r. (allowed e d ago el r).element;
    delays = λ e d ago el r. (allowed e d ago el r).delay;
    test = λ e d. body_test (element_of p e).body d;
    tests = λ e d. (body_yes (element_of p e).body d, body_no (element_of p e).body d);
  }

  pub flat_determined : IsDetermined (flat_system p stream)
  flat_determined = determined _ _ _ _ _ flat_local

  pub flat_heights : IsFlatLoopless p → HasHeights (flat_system p stream)
  flat_heights = heights _ _ _ _ _ flat_local

  pub flat_solution : IsFlatLoopless p → (x : Words) × IsOneFlatSolution p stream x
  flat_solution = its_solution _ _ _ _ _ flat_local

  pub flat_once : IsFlatLoopless p → (x : Words) → FlatSolves p stream x → IsOneFlatSolution p stream x
  flat_once = once _ _ _ _ _ flat_local

module _ (g : Graph) (sound : IsGraph g) (stream : Rows) where
  edge_allowed : (v u ago : ℕ) → v < length g.nodes → HasEdge g v u ago → IsEdgeIn g u ago
  edge_allowed v u ago el r = edges_allowed g (node_of g v).edges u ago (sound.nodes v no_node el).edges r

  graph_local : IsLocal (length g.nodes) (λ v n words. node_value stream words n (node_of g v)) (HasEdge g)
  graph_local = record {
    same = λ v n x y agree. node_same x y n stream (node_of g v) agree;
    elements = λ v u ago el r. (edge_allowed v u ago el r).node;
    delays = λ v u ago el r. (edge_allowed v u ago el r).delay;
    test = λ v u. edges_test (node_of g v).edges u;
    tests = λ v u. (edges_yes (node_of g v).edges u, edges_no (node_of g v).edges u);
  }

  pub graph_determined : IsDetermined (graph_system g stream)
  graph_determined = determined _ _ _ _ _ graph_local

  pub graph_heights : IsGraphLoopless g → HasHeights (graph_system g stream)
  graph_heights = heights _ _ _ _ _ graph_local

  pub graph_solution : IsGraphLoopless g → (x : Words) × IsOneGraphSolution g stream x
  graph_solution = its_solution _ _ _ _ _ graph_local

  pub graph_once : IsGraphLoopless g → (x : Words) → GraphSolves g stream x → IsOneGraphSolution g stream x
  graph_once = once _ _ _ _ _ graph_local
