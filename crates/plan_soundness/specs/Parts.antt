-- The parts of a plan, by number.
use Rattle.std.specs.Prelude.{◌≡◌, ℕ, ◌+◌, ◌%◌, ◌<◌, List, length, Contains}
use Rattle.datapath.specs.declared.types.Datapath.{Datapath}
use Rattle.signal_graph.specs.declared.graph.Edge.{Edge}
use Rattle.signal_graph.specs.declared.graph.Node.{Node}
use Rattle.plan_core.specs.Hardware.{port_of}
use Rattle.plan_core.specs.Operands.{node_of, edge_of, Reads}
use Rattle.plan_core.specs.Lowered.{line_of}
use Rattle.plan_core.specs.Assigned.{unit_in}
use Rattle.plan_core.specs.ListSchedule.{cycle_of, slot_of, ends}
use Rattle.plan_core.specs.Arcs.{arc_of}
use Rattle.plan_core.specs.FirstFit.{register_of}
use Rattle.plan_core.specs.declared.delay_lines.Line.{Line}
use Rattle.plan_core.specs.declared.schedule.Transfer.{Transfer}
use Rattle.plan_core.specs.declared.registers.Arc.{Arc}
use Rattle.plan_core.specs.declared.plan.Plan.{Plan}

module _ (p : Plan) where
  -- the nodes of the lowered list
  abbrev pub nodes_of : List Node
  nodes_of = p.assigned.lowered.nodes

  -- the delay lines
  abbrev pub lines_of : List Line
  lines_of = p.assigned.lowered.lines

  abbrev pub node_at : ℕ → Node
  node_at v = node_of nodes_of v

  -- the operand of node v at port q
  abbrev pub edge_at : (v q : ℕ) → Edge
  edge_at v q = edge_of (node_at v) q

  -- the unit of node v
  abbrev pub unit_at : ℕ → ℕ
  unit_at v = unit_in p.assigned.units v

  -- the cycle of the sample in which node v is issued
  abbrev pub cycle_at : ℕ → ℕ
  cycle_at v = cycle_of p.schedule v

  -- the transfers of the result of node v
  abbrev pub transfers_at : ℕ → List Transfer
  transfers_at v = (slot_of p.schedule v).transfers

  -- lifetime k
  abbrev pub arc_at : ℕ → Arc
  arc_at k = arc_of p.arcs k

  abbrev pub line_at : ℕ → Line
  line_at l = line_of lines_of l

  -- the register of copy i of lifetime k
  abbrev pub register_at : (k i : ℕ) → ℕ
  register_at k i = register_of p.registers.regs k i

  -- node v reads at port q what lifetime k keeps
  pub record ReadsThrough (v q k : ℕ) : Type 0 where
    pub there : k < length p.arcs
    pub port : (arc_at k).port ≡ port_of (unit_at v) q
    pub reads : Reads nodes_of v q (arc_at k).node

  -- the transfer takes the words of lifetime k to its register file
  pub record IsTransferOf (k : ℕ) (transfer : Transfer) : Type 0 where
    pub there : k < length p.arcs
    pub among : Contains (transfers_at (arc_at k).node) transfer
    pub port : transfer.port ≡ (arc_at k).port

-- the cycle of the sample in which the result of node v is there
abbrev pub ends_at : Datapath → Plan → ℕ → ℕ
ends_at d p v = ends d p.assigned p.schedule v

-- of so many copies, copy i has the word of so many samples before sample n
pub record IsCopy (copies n ago i : ℕ) : Type 0 where
  pub there : i < copies
  pub in_turn : (i + ago) % copies ≡ n % copies
