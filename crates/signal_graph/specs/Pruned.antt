-- The nodes from which an output is reached.
use Rattle.std.specs.Prelude.{◌≡◌, ℕ, ◌==◌, ◌↔◌, List, map, position, Contains, Some}
use Rattle.std.specs.List.{AllZip}
use Rattle.std.specs.List.Sorted.{IsStrictlyIncreasing}
use Rattle.fix_word.specs.declared.operation.Op.TheVariants as op
use Rattle.signal_graph.specs.GraphSolves.{IsNodeNumber, node_of, HasEdge}
use Rattle.signal_graph.specs.declared.graph.Edge.{Edge}
use Rattle.signal_graph.specs.declared.graph.Node.{Node}
use Rattle.signal_graph.specs.declared.graph.Graph.{Graph}

-- an output, or a node that such a node reads, at any delay
pub data IsUsed (g : Graph) : ℕ → Type 0 where
  output : {v : ℕ} → IsNodeNumber g v → (node_of g v).op ≡ op.Output → IsUsed g v
  read : {v u : ℕ} (ago : ℕ) → IsUsed g v → HasEdge g v u ago → IsUsed g u

-- the numbers are those of the nodes that are used, in their order
pub record AreUsed (g : Graph) (kept : List ℕ) : Type 0 where
  pub rise : IsStrictlyIncreasing kept
  pub used : (v : ℕ) → Contains kept v ↔ IsUsed g v

-- the edge of the one graph is that of the other with its node's new number, its position among those that are kept
pub record IsEdgeOf (kept : List ℕ) (new old : Edge) : Type 0 where
  pub node : position (λ v. v == old.node) kept ≡ Some new.node
  pub delay : new.delay ≡ old.delay

-- the node of the one graph is that of the other but for the numbers in its edges
pub record IsRenumbered (kept : List ℕ) (new old : Node) : Type 0 where
  pub edges : AllZip (IsEdgeOf kept) new.edges old.edges
  pub node : new ≡ record old { edges = new.edges }

-- the second graph is the first without the nodes from which no output is reached
pub record IsPruned (g pruned : Graph) : Type 0 where
  pub kept : List ℕ
  pub used : AreUsed g kept
  pub inputs : pruned.inputs ≡ g.inputs
  pub outs : pruned.outs ≡ g.outs
  pub nodes : AllZip (IsRenumbered kept) pruned.nodes (map (node_of g) kept)
