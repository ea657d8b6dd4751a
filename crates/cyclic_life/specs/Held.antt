-- What is asked of a graph whose words are held in registers.
use Rattle.std.specs.Prelude.{◌≡◌, ℕ, ◌+◌, ◌*◌, ◌^◌, ◌<◌, ◌≤◌, List, length, All}
use Rattle.operations.specs.Operations.{operands}
use Rattle.datapath.specs.declared.types.Datapath.{Datapath}
use Rattle.signal_graph.specs.declared.graph.Edge.{Edge}
use Rattle.signal_graph.specs.declared.graph.Node.{Node}
use Rattle.plan_core.specs.Assigned.{unit_in}
use Rattle.plan_core.specs.Heights.{latency_of}
use Rattle.plan_core.specs.ListSchedule.{cycle_of, AreOperandsThere}
use Rattle.plan_core.specs.declared.schedule.Assigned.{Assigned}
use Rattle.plan_core.specs.declared.schedule.Schedule.{Schedule}

-- The nodes can be numbered, each has an edge for each operand of its operation, to a node that is there and at most
-- three samples ago, and each has a unit that is there.
pub record IsHeld (d : Datapath) (a : Assigned) : Type 0 where
  pub node_count : length a.lowered.nodes < 2 ^ 32
  pub edge_count : All (λ (node : Node). length node.edges ≡ operands node.op) a.lowered.nodes
  pub edges :
      All (λ (node : Node). All (λ (edge : Edge). edge.node < length a.lowered.nodes) node.edges) a.lowered.nodes
  pub delays : All (λ (node : Node). All (λ (edge : Edge). edge.delay ≤ 3) node.edges) a.lowered.nodes
  pub unit_count : length a.units ≡ length a.lowered.nodes
  pub units : (v : ℕ) → v < length a.lowered.nodes → unit_in a.units v < length d.units

-- each node has its slot, and ends in the period
pub record IsInPeriod (d : Datapath) (a : Assigned) (s : Schedule) : Type 0 where
  pub count : length s.slots ≡ length a.lowered.nodes
  pub ends : (v : ℕ) → v < length a.lowered.nodes → cycle_of s v + latency_of d a v ≤ d.period

-- each word is read in the sample in which it is written
abbrev pub AreReadNow : Assigned → Type 0
AreReadNow a = All (λ (node : Node). All (λ (edge : Edge). edge.delay ≡ 0) node.edges) a.lowered.nodes

-- each node has its slot, and ends in four stages at most; its operands of the same sample are there when it is issued
pub record IsOverStages (d : Datapath) (a : Assigned) (s : Schedule) : Type 0 where
  pub stages : ℕ
  pub few : stages ≤ 4
  pub count : length s.slots ≡ length a.lowered.nodes
  pub ends : (v : ℕ) → v < length a.lowered.nodes → cycle_of s v + latency_of d a v ≤ stages * d.period
  pub operands : (v : ℕ) → v < length a.lowered.nodes → AreOperandsThere d a s v (cycle_of s v)
