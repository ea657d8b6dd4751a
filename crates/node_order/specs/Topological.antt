-- Topological orders: each node comes behind those that it reads without a delay.
use Rattle.std.specs.Prelude.{◌≡◌, ℕ, ◌<◌, ◌≤◌, ◌^◌, List, length, slice_index_or}
use Rattle.signal_graph.specs.GraphSolves.{no_node}
use Rattle.signal_graph.specs.Values.{EdgesRead}
use Rattle.signal_graph.specs.declared.graph.Node.{Node}

abbrev pub nth : List ℕ → ℕ → ℕ
nth xs i = slice_index_or xs i 0

-- u is one of the numbers
abbrev pub IsAt : List ℕ → ℕ → Type 0
IsAt xs u = (i : ℕ) × (i < length xs) × (nth xs i ≡ u)

-- node v
abbrev pub node_at : List Node → ℕ → Node
node_at nodes v = slice_index_or nodes v no_node

-- node v reads node u without a delay
abbrev pub HasOperand : List Node → (v u : ℕ) → Type 0
HasOperand nodes v u = EdgesRead (node_at nodes v).edges u 0

-- each is one of the nodes, and what it reads without a delay comes before it
pub record IsOrdered (nodes : List Node) (order : List ℕ) : Type 0 where
  pub there : (i : ℕ) → i < length order → nth order i < length nodes
  pub operands : (i u : ℕ) → i < length order → HasOperand nodes (nth order i) u
      → (j : ℕ) × (j < i) × (nth order j ≡ u)

-- an order of all nodes, of which none comes twice
pub record IsTopologicalOrder (nodes : List Node) (order : List ℕ) : Type 0 where
  pub ordered : IsOrdered nodes order
  pub all : (v : ℕ) → v < length nodes → IsAt order v
  pub few : length order ≤ length nodes

-- The nodes can be numbered, and what they read without a delay is among them. A rank rises from each node to those, as
-- it can where no node depends on itself without a delay.
pub record CanBeOrdered (nodes : List Node) : Type 0 where
  pub count : length nodes < 2 ^ 32
  pub closed : (v u : ℕ) → v < length nodes → HasOperand nodes v u → u < length nodes
  pub rank : ℕ → ℕ
  pub rises : (v u : ℕ) → v < length nodes → HasOperand nodes v u → rank v < rank u
