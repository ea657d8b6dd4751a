-- What is asked of a graph whose nodes are bound to units.
use Rattle.std.specs.Prelude.{◌≡◌, ◌^◌, ◌<◌, length, All}
use Rattle.signal_graph.specs.Operations.{operands}
use Rattle.signal_graph.specs.declared.graph.Edge.{Edge}
use Rattle.signal_graph.specs.declared.graph.Node.{Node}
use Rattle.plan_core.specs.declared.delay_lines.Lowered.{Lowered}

-- the nodes can be numbered, and each has an edge for each operand of its operation, to a node that is there
pub record IsWired (l : Lowered) : Type 0 where
  pub node_count : length l.nodes < 2 ^ 32
  pub edge_count : All (λ (node : Node). length node.edges ≡ operands node.op) l.nodes
  pub edges : All (λ (node : Node). All (λ (edge : Edge). edge.node < length l.nodes) node.edges) l.nodes
