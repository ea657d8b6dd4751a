-- A graph of which all nodes are used is pruned as it is.
use Rattle.std.proofs.Common.{◌≡◌, ◌∙◌, refl, sym, ap, arith, ℕ, zero, suc, ◌+◌, ◌<◌, List, [], ◌∷◌, map, drop, length}
use Rattle.std.proofs.Common.{Bool, true, false}
use Rattle.std.specs.Prelude.{◌≢◌, slice_index_or, slice_get, All, IsSomeAnd, Option, Some, None}
use Rattle.std.proofs.lemmas.Option.{slice_get_within}
use Rattle.std.proofs.lemmas.List.{drop_all, drop_more}
use Rattle.std.proofs.lemmas.List.Elements.{All-head, All-tail}
use Rattle.fix_word.specs.declared.operation.Op.TheVariants as op
use Rattle.signal_graph.specs.declared.graph.Edge.{Edge}
use Rattle.signal_graph.specs.declared.graph.Node.{Node}
use Rattle.signal_graph.specs.declared.graph.Graph.{Graph}
use Rattle.signal_graph.specs.GraphRules.{IsEdge, IsNode, IsGraph}
use Rattle.signal_graph.specs.GraphSolves.{no_node, node_of}
use Rattle.signal_graph.specs.Pruned.{IsPruned}
use Rattle.flow_graph.specs.Private.Pruning.{is_marked, AreAllMarked, AreUsedMarks, numbers_from, kept_from}
use Rattle.flow_graph.specs.Private.Pruning.{renumbered_edge, renumbered}
use Rattle.flow_graph.proofs.NewNumbers.{is_pruned}

rest_marked : (mark : Bool) (rest : List Bool) → AreAllMarked (mark ∷ rest) → AreAllMarked rest
rest_marked mark rest all = λ v lt. all (suc v) (omega (arith, lt))

-- all nodes from k on are kept
all_kept : (g : Graph) (k : ℕ) (marks : List Bool)
    → AreAllMarked marks
    → k + length marks ≡ length g.nodes
    → map (node_of g) (kept_from k marks) ≡ drop k g.nodes
all_kept g k [] all is = sym (drop_all k g.nodes (omega (arith, is)))
all_kept g k (true ∷ rest) all is =
    ap (λ (ns : List Node). node_of g k ∷ ns)
    (all_kept g (k + 1) rest (rest_marked true rest all) (omega (arith, is)))
    ∙ sym (drop_more g.nodes k no_node (omega (arith, is)))
all_kept g k (false ∷ rest) all is = absurd (let no : false ≡ true = all 0 (omega arith) in cc)

-- the new number of a node is its own
own_number : (n : ℕ) (marks : List Bool)
    → AreAllMarked marks
    → (v : ℕ)
    → v < length marks
    → slice_index_or (numbers_from n marks) v 0 ≡ n + v
own_number n [] all v lt = absurd (omega (arith, lt))
own_number n (true ∷ rest) all zero lt = omega arith
own_number n (true ∷ rest) all (suc v) lt =
    own_number (n + 1) rest (rest_marked true rest all) v (omega (arith, lt)) ∙ omega arith
own_number n (false ∷ rest) all v lt = absurd (let no : false ≡ true = all 0 (omega arith) in cc)

module _ (g : Graph) (numbers : List ℕ) (own : (u : ℕ) → u < length g.nodes → slice_index_or numbers u 0 ≡ u) where
  edge_inside : (e : Edge) → IsEdge g e → e.node < length g.nodes
  edge_inside e is = by (slice_get g.nodes e.node) refl is.node
    where
      by : (o : Option Node)
          → slice_get g.nodes e.node ≡ o
          → IsSomeAnd o (λ (node : Node). node.op ≢ op.Output)
          → e.node < length g.nodes
      by None h is = absurd is
      by (Some node) h is = slice_get_within g.nodes e.node node h

  same_edges : (edges : List Edge) → All (IsEdge g) edges → map (renumbered_edge numbers) edges ≡ edges
  same_edges [] all = refl
  same_edges (e ∷ es) all =
      ap (λ (n : ℕ). record e { node = n } ∷ map (renumbered_edge numbers) es)
      (own e.node (edge_inside e (All-head (IsEdge g) e es all)))
      ∙ ap (λ (xs : List Edge). e ∷ xs) (same_edges es (All-tail (IsEdge g) e es all))

  same_nodes : (nodes : List Node) → All (IsNode g) nodes → map (renumbered numbers) nodes ≡ nodes
  same_nodes [] all = refl
  same_nodes (node ∷ nodes) all =
      ap (λ (edges : List Edge). record node { edges = edges } ∷ map (renumbered numbers) nodes)
      (same_edges node.edges (All-head (IsNode g) node nodes all).edges)
      ∙ ap (λ (ns : List Node). node ∷ ns) (same_nodes nodes (All-tail (IsNode g) node nodes all))

pub whole_is_pruned : (g : Graph) (marks : List Bool)
    → AreUsedMarks g marks
    → IsGraph g
    → AreAllMarked marks
    → IsPruned g g
whole_is_pruned g marks are sound all =
    let numbers = numbers_from 0 marks in
    let kept : map (node_of g) (kept_from 0 marks) ≡ g.nodes = all_kept g 0 marks all (omega (arith, are.count)) in
    let same : map (renumbered numbers) g.nodes ≡ g.nodes =
    same_nodes g numbers (λ u lt. own_number 0 marks all u (omega (arith, lt, are.count)) ∙ omega arith) g.nodes
    sound.nodes in
    is_pruned g marks are numbers refl g (sym (ap (λ (ns : List Node). map (renumbered numbers) ns) kept ∙ same)) refl
    refl
