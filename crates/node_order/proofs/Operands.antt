-- What a node reads without a delay, as the code reads it from its edges, and nodes that are in order as they stand.
use Rattle.std.proofs.Common.{◌≡◌, refl, sym, subst, arith, ℕ, zero, suc, ◌+◌, ◌<◌, ◌≤◌, inl, inr, ⊎_elim, List, []}
use Rattle.std.proofs.Common.{◌∷◌, length, All}
use Rattle.std.proofs.lemmas.Bool.{cases_lt}
use Rattle.std.proofs.lemmas.List.{get_or_default, get_or_read}
use Rattle.std.specs.Prelude.{slice_index_or}
use Rattle.signal_graph.specs.GraphSolves.{no_node}
use Rattle.signal_graph.specs.Values.{EdgesRead}
use Rattle.signal_graph.specs.declared.graph.Edge.{Edge}
use Rattle.signal_graph.specs.declared.graph.Node.{Node}
use Rattle.node_order.specs.Topological.{node_at, HasOperand, IsTopologicalOrder, CanBeOrdered}
use Rattle.node_order.specs.Private.Search.{mark_at, no_edge, edge_at, IsNewOperand}
use Rattle.node_order.specs.Private.Sorted.{IsSorted, AreNumbers}
use Rattle.node_order.specs.declared.search.Mark.{Mark}
use Rattle.node_order.specs.declared.search.Mark.TheVariants.{New}

pub edge_read : (edges : List Edge) (q : ℕ)
    → q < length edges
    → EdgesRead edges (edge_at edges q).node (edge_at edges q).delay
edge_read [] q less = absurd (omega (arith, less))
edge_read (edge ∷ rest) zero less = inl (refl, refl)
edge_read (edge ∷ rest) (suc q) less = inr (edge_read rest q (omega (arith, less)))

-- the edge over which a node is read
pub record IsReadOver (edges : List Edge) (u ago q : ℕ) : Type 0 where
  pub port : q < length edges
  pub node : (edge_at edges q).node ≡ u
  pub delay : (edge_at edges q).delay ≡ ago

pub edge_over : (edges : List Edge) (u ago : ℕ) → EdgesRead edges u ago → (q : ℕ) × IsReadOver edges u ago q
edge_over [] u ago r = absurd r
edge_over (edge ∷ rest) u ago (inl r) = (0, record { port = omega arith; node = sym r.0; delay = sym r.1 })
edge_over (edge ∷ rest) u ago (inr r) =
    let h = edge_over rest u ago r in
    let less = h.1.port in
    (suc h.0, record { port = omega (arith, less); node = h.1.node; delay = h.1.delay })

pub read_over : (edges : List Edge) (u ago q : ℕ) → IsReadOver edges u ago q → EdgesRead edges u ago
read_over edges u ago q is =
    subst (λ (d : ℕ). EdgesRead edges u d) is.delay
    (subst (λ (w : ℕ). EdgesRead edges w (edge_at edges q).delay) is.node (edge_read edges q is.port))

module _ (nodes : List Node) (v : ℕ) (node : Node) (there : v < length nodes)
    (read : node ≡ slice_index_or nodes v node)
  where
    is : node ≡ node_at nodes v
    is = get_or_read nodes v node there read no_node

    pub operand_of : (marks : List Mark) (u : ℕ) → IsNewOperand node marks u → HasOperand nodes v u
    operand_of marks u new =
        subst (λ (x : Node). EdgesRead x.edges u 0) is
        (read_over node.edges u 0 new.q (record { port = new.port; node = new.operand; delay = new.now }))

    -- a node without a new operand, as the code looks for one
    pub none_new : (marks : List Mark)
        → ((u : ℕ) → IsNewOperand node marks u → ⊥)
        → (u : ℕ)
        → HasOperand nodes v u
        → mark_at marks u ≡ New
        → ⊥
    none_new marks none u r fresh =
        let h = edge_over node.edges u 0 (subst (λ (x : Node). EdgesRead x.edges u 0) (sym is) r) in
        none u (record { q = h.0; port = h.1.port; operand = h.1.node; now = h.1.delay; fresh = fresh })

    -- the edges of a node lead to nodes that are there
    pub edges_there : CanBeOrdered nodes
        → All (λ (edge : Edge). edge.delay ≡ 0 → edge.node < length nodes) node.edges
    edges_there can q d less now =
        subst (λ (e : Edge). e.node < length nodes) (get_or_default node.edges q no_edge d less)
        (can.closed v (edge_at node.edges q).node there
        (subst (λ (x : Node). EdgesRead x.edges (edge_at node.edges q).node 0) is
        (read_over node.edges (edge_at node.edges q).node 0 q
        (record {
          port = less;
          node = refl;
          delay = subst (λ (e : Edge). e.delay ≡ 0) (get_or_default node.edges q d no_edge less) now;
        }))))

    -- one node more that comes behind its operands
    pub sorted_more : IsSorted nodes v
        → All (λ (edge : Edge). edge.delay ≡ 0 → edge.node < v) node.edges
        → IsSorted nodes (v + 1)
    sorted_more before behind w u less r =
        ⊎_elim (λ (early : w < v). before w u early r)
        (λ (past : v ≤ w).
        let at : w ≡ v = omega (arith, less, past) in
        subst (λ (x : ℕ). u < x) (sym at) (last u (subst (λ (x : ℕ). HasOperand nodes x u) at r)))
        (cases_lt w v)
      where
        last : (u : ℕ) → HasOperand nodes v u → u < v
        last u r =
            let h = edge_over node.edges u 0 (subst (λ (x : Node). EdgesRead x.edges u 0) (sym is) r) in
            subst (λ (x : ℕ). x < v) h.1.node (behind h.0 no_edge h.1.port h.1.delay)

-- sorted nodes by their numbers
pub numbers_ordered : (nodes : List Node) (order : List ℕ)
    → IsSorted nodes (length nodes)
    → AreNumbers (length nodes) order
    → IsTopologicalOrder nodes order
numbers_ordered nodes order sorted are = record {
  ordered = record {
    there = λ i less.
        (let c = are.count in subst (λ (x : ℕ). x < length nodes) (sym (are.each i (omega arith))) (omega arith));
    operands = λ i u less h.
        let c = are.count in
        let is = are.each i (omega arith) in
        let low = sorted i u (omega arith) (subst (λ (x : ℕ). HasOperand nodes x u) is h) in
        (u, low, are.each u (omega arith));
  };
  all = λ v there. (let c = are.count in (v, omega arith, are.each v there));
  few = let c = are.count in omega arith;
}
