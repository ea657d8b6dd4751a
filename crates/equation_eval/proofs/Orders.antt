-- The order of the nodes that are no outputs.
use Rattle.std.proofs.Common.{◌≡◌, ◌∙◌, sym, subst, arith, ℕ, zero, suc, ◌-◌, ◌<◌, ◌⊎◌, inl, inr, ⊎_elim, List, [], ◌∷◌}
use Rattle.std.proofs.Common.{◌++◌, length}
use Rattle.std.specs.Prelude.{take}
use Rattle.std.specs.List.{Contains}
use Rattle.std.proofs.lemmas.List.{get_or-take, length-take-le, get_or_default}
use Rattle.std.proofs.lemmas.List.Elements.{Contains-push, Contains-append_left}
use Rattle.signal_graph.specs.GraphRules.{IsGraph, first_output}
use Rattle.signal_graph.specs.GraphSolves.{no_node, node_of, HasEdge, IsGraphLoopless}
use Rattle.signal_graph.specs.Values.{EdgesRead}
use Rattle.signal_graph.specs.declared.graph.Node.{Node}
use Rattle.signal_graph.specs.declared.graph.Graph.{Graph}
use Rattle.signal_graph.proofs.Heights.{height, height_most, height_falls}
use Rattle.node_order.specs.Topological.{nth, IsAt, node_at, HasOperand, IsTopologicalOrder, CanBeOrdered}
use Rattle.equation_eval.specs.Private.Order.{IsOrdered, IsOrder}
use Rattle.equation_eval.proofs.Edges.{edge_there}

-- u comes before place i
abbrev IsBefore : List ℕ → (i u : ℕ) → Type 0
IsBefore order i u = (j : ℕ) × (j < i) × (nth order j ≡ u)

contains_at : (xs : List ℕ) (u : ℕ) → IsAt xs u → Contains xs u
contains_at xs u (i, less, is) = (i, less, get_or_default xs i u 0 less ∙ is)

given_next : (given rest : List ℕ) (v i u : ℕ)
    → IsBefore (v ∷ rest) (suc i) u
    → Contains (given ++ v ∷ []) u ⊎ IsBefore rest i u
given_next given rest v i u (zero, less, is) = inl (subst (Contains (given ++ v ∷ [])) is (Contains-push given v))
given_next given rest v i u (suc j, less, is) = inr (j, omega (arith, less), is)

ordered_from : (g : Graph) (given rest : List ℕ)
    → ((i : ℕ) → i < length rest → nth rest i < first_output g)
    → ((i u : ℕ) → i < length rest → HasEdge g (nth rest i) u 0 → Contains given u ⊎ IsBefore rest i u)
    → IsOrdered g given rest
ordered_from g given [] there behind = tt
ordered_from g given (v ∷ rest) there behind = (
  there 0 (omega arith),
  λ u r. ⊎_elim (λ h. h) (λ (h : IsBefore (v ∷ rest) 0 u). absurd (omega (arith, h.1))) (behind 0 u (omega arith) r),
  ordered_from g (given ++ v ∷ []) rest (λ i less. there (suc i) (omega (arith, less)))
      (λ i u less r.
      ⊎_elim (λ h. inl (Contains-append_left given (v ∷ []) u h)) (given_next given rest v i u)
      (behind (suc i) u (omega (arith, less)) r)),
)

module _ (g : Graph) (sound : IsGraph g) where
  abbrev pub calculated : List Node
  calculated = take (first_output g) g.nodes

  pub count : length calculated ≡ first_output g
  count = length-take-le (first_output g) g.nodes (omega arith)

  same_node : (v : ℕ) → v < first_output g → node_at calculated v ≡ node_of g v
  same_node v less = get_or-take (first_output g) g.nodes v no_node less

  edge_of : (v u : ℕ) → v < first_output g → HasOperand calculated v u → HasEdge g v u 0
  edge_of v u less = subst (λ (node : Node). EdgesRead node.edges u 0) (same_node v less)

  operand_of : (v u : ℕ) → v < first_output g → HasEdge g v u 0 → HasOperand calculated v u
  operand_of v u less = subst (λ (node : Node). EdgesRead node.edges u 0) (sym (same_node v less))

  pub can_be_ordered : IsGraphLoopless g → CanBeOrdered calculated
  can_be_ordered loopless = record {
    count = omega (arith, count, sound.node_count);
    closed = λ v u there h.
        (let less : v < first_output g = omega (arith, there, count) in
        let to = (edge_there g sound v u 0 (omega (arith, less)) (edge_of v u less h)).node in
        omega (arith, to, count));
    rank = λ v. length g.nodes - height g v;
    rises = λ v u there h.
        (let less : v < first_output g = omega (arith, there, count) in
        let falls = height_falls g sound loopless v u (omega (arith, less)) (edge_of v u less h) in
        omega (arith, falls, height_most g v));
  }

  pub is_order : (order : List ℕ) → IsTopologicalOrder calculated order → IsOrder g order
  is_order order is = record {
    ordered = ordered_from g [] order (λ i less. omega (arith, is.ordered.there i less, count))
        (λ i u less r.
        inr (is.ordered.operands i u less
        (operand_of (nth order i) u (omega (arith, is.ordered.there i less, count)) r)));
    all = λ v less. contains_at order v (is.all v (omega (arith, less, count)));
  }
