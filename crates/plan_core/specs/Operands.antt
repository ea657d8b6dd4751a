-- Which node reads which, at which port and with which delay.
use Rattle.std.specs.Prelude.{◌≡◌, ℕ, ◌<◌, List, length, slice_index_or}
use Rattle.signal_graph.specs.GraphSolves.{no_node}
use Rattle.signal_graph.specs.declared.graph.Edge.{Edge}
use Rattle.signal_graph.specs.declared.graph.Node.{Node}

-- node v
abbrev pub node_of : List Node → ℕ → Node
node_of nodes v = slice_index_or nodes v no_node

-- what stands in the place of an edge that is not there
abbrev pub no_edge : Edge
no_edge = record { node = 0; delay = 0 }

-- the operand of a node at port q
abbrev pub edge_of : Node → ℕ → Edge
edge_of node q = slice_index_or node.edges q no_edge

-- how many samples ago port q of node c reads
abbrev pub delay_at : List Node → (c q : ℕ) → ℕ
delay_at nodes c q = (edge_of (node_of nodes c) q).delay

-- node c, a consumer of node v, reads it at port q
pub record Reads (nodes : List Node) (c q v : ℕ) : Type 0 where
  pub port : q < length (node_of nodes c).edges
  pub node : (edge_of (node_of nodes c) q).node ≡ v
