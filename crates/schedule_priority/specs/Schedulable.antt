-- What is asked of a graph that is scheduled.
use Rattle.std.specs.Prelude.{◌≡◌, ◌^◌, ◌<◌, ℕ, length, All}
use Rattle.operations.specs.Operations.{operands}
use Rattle.datapath.specs.declared.types.Datapath.{Datapath}
use Rattle.signal_graph.specs.declared.graph.Edge.{Edge}
use Rattle.signal_graph.specs.declared.graph.Node.{Node}
use Rattle.plan_core.specs.Assigned.{unit_in}
use Rattle.plan_core.specs.Heights.{AreHeights}
use Rattle.plan_core.specs.declared.schedule.Assigned.{Assigned}

-- The nodes can be numbered, each has an edge for each operand of its operation, to a node that is there, and each has
-- a unit that is there. Each has a height, as it has where no loop is without a delay.
pub record IsSchedulable (d : Datapath) (a : Assigned) : Type 0 where
  pub node_count : length a.lowered.nodes < 2 ^ 32
  pub edge_count : All (λ (node : Node). length node.edges ≡ operands node.op) a.lowered.nodes
  pub edges :
      All (λ (node : Node). All (λ (edge : Edge). edge.node < length a.lowered.nodes) node.edges) a.lowered.nodes
  pub unit_count : length a.units ≡ length a.lowered.nodes
  pub units : (v : ℕ) → v < length a.lowered.nodes → unit_in a.units v < length d.units
  pub height : ℕ → ℕ
  pub heights : AreHeights d a height
