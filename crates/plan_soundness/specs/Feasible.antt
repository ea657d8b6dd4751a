-- A feasible plan: the facts that a run of its image rests on. None of them says that a choice is the least or the
-- first, so that plans by other rules meet them too. Cycles count from the start of a sample, over all of its stages.
use Rattle.std.specs.Prelude.{◌≡◌, ℕ, ◌+◌, ◌-◌, ◌*◌, ◌%◌, ◌<◌, ◌≤◌, ◌⊎◌, true, length, Contains}
use Rattle.fix_word.specs.declared.operation.Op.TheVariants as op
use Rattle.operations.specs.Operations.{operands}
use Rattle.operations.specs.Ranges.{to_nat}
use Rattle.datapath.specs.declared.types.Datapath.{Datapath}
use Rattle.signal_graph.specs.declared.graph.Graph.{Graph}
use Rattle.plan_core.specs.Hardware.{latency_on, gap_on, cells_on, file_size}
use Rattle.plan_core.specs.Lowered.{IsLoweredOver}
use Rattle.plan_core.specs.Arcs.{IsCount}
use Rattle.plan_core.specs.Circle.{AreApart}
use Rattle.plan_core.specs.declared.schedule.Transfer.{Transfer}
use Rattle.plan_core.specs.declared.plan.Plan.{Plan}
use Rattle.micro_image.specs.Operations.{gives}
use Rattle.plan_soundness.specs.Parts.{nodes_of, lines_of, node_at, edge_at, unit_at, cycle_at, transfers_at, arc_at}
use Rattle.plan_soundness.specs.Parts.{line_at}
use Rattle.plan_soundness.specs.Parts.{register_at, ReadsThrough, IsTransferOf, ends_at}
use Rattle.plan_soundness.specs.Samples.{past}
use Rattle.plan_soundness.specs.Overlap.{Overlap, one_by_one, shift_of, reach, AreDisjoint}
use Rattle.plan_soundness.specs.Lifetimes.{IsLifetime}
use Rattle.plan_soundness.specs.Memory.{LoadsFrom, StoresTo, store_of}
use Rattle.plan_soundness.specs.Units.{AreOnRightUnits}

-- lifetime k, of the words of a node
pub record IsFeasibleArc (d : Datapath) (p : Plan) (k : ℕ) : Type 0 where
  pub lifetime : IsLifetime d.period p.unroll (arc_at p k)
  pub written : (arc_at p k).w + shift_of d p k * d.period ≡ ends_at d p (arc_at p k).node
  pub node : (arc_at p k).node < length (nodes_of p)
  pub result : gives (node_at p (arc_at p k).node).op ≡ true
  pub transfer : (t : Transfer) × IsTransferOf p k t

-- line l has its cells in its ram, and a node that writes it
pub record IsFeasibleLine (o : Overlap) (d : Datapath) (p : Plan) (l : ℕ) : Type 0 where
  pub node : (line_at p l).node < length (nodes_of p)
  pub store : store_of (line_at p l) < length (nodes_of p)
  pub stores : StoresTo d p (store_of (line_at p l)) l
  pub room : (line_at p l).offset + reach o (line_at p l) < cells_on d (line_at p l).ram
  pub some : 0 < (line_at p l).depth
  pub depth : (line_at p l).depth < past

-- the delay lines, which share no cell, and the nodes that read and write them
pub record AreSoundLines (o : Overlap) (d : Datapath) (p : Plan) : Type 0 where
  pub lines : (l : ℕ) → l < length (lines_of p) → IsFeasibleLine o d p l
  pub lines_apart : (l m : ℕ)
      → l < length (lines_of p)
      → m < length (lines_of p)
      → (line_at p l).ram ≡ (line_at p m).ram
      → (l ≡ m) ⊎ AreDisjoint o (line_at p l) (line_at p m)
  pub loads : (v : ℕ)
      → v < length (nodes_of p)
      → (node_at p v).op ≡ op.Load
      → (l : ℕ) × (ago : ℕ) × LoadsFrom d p v l ago
  pub stores : (v : ℕ)
      → v < length (nodes_of p) → (node_at p v).op ≡ op.Store
      → (l : ℕ) × StoresTo d p v l

-- two copies in one register are one, or share no cycle of the circle
abbrev pub AreRegistersApart : Datapath → Plan → Type 0
AreRegistersApart d p =
    (j k a b : ℕ)
    → j < length p.arcs → k < length p.arcs
    → a < (arc_at p j).copies → b < (arc_at p k).copies
    → (arc_at p j).port ≡ (arc_at p k).port → register_at p j a ≡ register_at p k b
    → ((j ≡ k) × (a ≡ b)) ⊎ AreApart d.period p.unroll (arc_at p j) a (arc_at p k) b

pub record IsFeasibleOver (o : Overlap) (d : Datapath) (p : Plan) : Type 0 where
  pub period : 0 < d.period
  pub stages : 0 < o.stages
  pub first : o.first ≤ past
  pub unroll : 0 < p.unroll
  pub turns : past % p.unroll ≡ 0
  pub gaps : (u : ℕ) → (0 < gap_on d u) × (gap_on d u ≤ latency_on d u)
  pub operand_count : (v : ℕ) → v < length (nodes_of p) → length (node_at p v).edges ≡ operands (node_at p v).op
  pub edges : (v q : ℕ)
      → v < length (nodes_of p)
      → q < length (node_at p v).edges
      → ((edge_at p v q).node < length (nodes_of p)) × (o.first + (edge_at p v q).delay ≤ past)
  pub outputs : (u v : ℕ)
      → u < length (nodes_of p)
      → v < length (nodes_of p)
      → (node_at p u).op ≡ op.Output
      → (node_at p v).op ≡ op.Output
      → to_nat (node_at p u).arg ≡ to_nat (node_at p v).arg
      → u ≡ v
  pub units : (v : ℕ) → v < length (nodes_of p) → unit_at p v < length d.units
  pub buses : (v : ℕ) (t : Transfer)
      → v < length (nodes_of p) → Contains (transfers_at p v) t
      → t.bus < length d.buses
  -- each operation ends in its stages
  pub fits : (v : ℕ) → v < length (nodes_of p) → ends_at d p v < o.stages * d.period
  -- an input is issued in the first stage, and an output ends in the last one
  pub inputs : (v : ℕ) → v < length (nodes_of p) → (node_at p v).op ≡ op.Input → cycle_at p v < d.period
  pub outputs_last : (v : ℕ)
      → v < length (nodes_of p)
      → (node_at p v).op ≡ op.Output
      → (o.stages - 1) * d.period ≤ ends_at d p v
  -- two issues on one unit, of whatever samples, are its gap apart
  pub unit_free : (u v s n : ℕ)
      → u < length (nodes_of p)
      → v < length (nodes_of p)
      → unit_at p u ≡ unit_at p v
      → cycle_at p u + s * d.period ≤ cycle_at p v + n * d.period
      → cycle_at p v + n * d.period < cycle_at p u + s * d.period + gap_on d (unit_at p u)
      → (u ≡ v) × (s ≡ n)
  -- a bus has the result of one node in a cycle
  pub bus_free : (u v m n : ℕ) (s t : Transfer)
      → u < length (nodes_of p)
      → v < length (nodes_of p)
      → Contains (transfers_at p u) s
      → Contains (transfers_at p v) t
      → ends_at d p u + m * d.period ≡ ends_at d p v + n * d.period
      → s.bus ≡ t.bus
      → u ≡ v
  -- one transfer of a result goes to a register file
  pub transfer_once : (v : ℕ) (s t : Transfer)
      → v < length (nodes_of p)
      → Contains (transfers_at p v) s
      → Contains (transfers_at p v) t
      → s.port ≡ t.port
      → s.bus ≡ t.bus
  -- a node with a transfer has a result
  pub transfers : (v : ℕ) (t : Transfer)
      → v < length (nodes_of p)
      → Contains (transfers_at p v) t
      → gives (node_at p v).op ≡ true
  pub arcs : (k : ℕ) → k < length p.arcs → IsFeasibleArc d p k
  -- what a lifetime keeps of a sample before sample 0 is there before the run
  pub early : (k s : ℕ)
      → k < length p.arcs
      → o.first ≤ s
      → s < past
      → ends_at d p (arc_at p k).node + s * d.period < past * d.period
  -- a register file is written once in a cycle
  pub file_free : (j k : ℕ)
      → j < length p.arcs
      → k < length p.arcs
      → (arc_at p j).port ≡ (arc_at p k).port
      → (arc_at p j).w ≡ (arc_at p k).w
      → j ≡ k
  pub ports : (k : ℕ) → k < length p.arcs → (arc_at p k).port.port < 4
  -- each operand is read through a lifetime, behind the write and not behind its end
  pub read : (v q : ℕ)
      → v < length (nodes_of p) → q < length (node_at p v).edges
      → (k : ℕ) × ReadsThrough p v q k
  pub read_in : (v q k : ℕ)
      → v < length (nodes_of p)
      → ReadsThrough p v q k
      → (ends_at d p (arc_at p k).node < cycle_at p v + (edge_at p v q).delay * d.period)
      × (cycle_at p v + (edge_at p v q).delay * d.period ≤ (arc_at p k).r + shift_of d p k * d.period)
  pub registers : AreRegistersApart d p
  pub memory : AreSoundLines o d p
  -- a load is issued behind the end of the store of the word that it reads
  pub load_in : (v l ago : ℕ)
      → v < length (nodes_of p)
      → (node_at p v).op ≡ op.Load
      → LoadsFrom d p v l ago
      → ends_at d p (store_of (line_at p l)) < cycle_at p v + ago * d.period

-- A feasible plan of the graph, whose registers are in their files. Delays above the hold are in delay lines, each with
-- so many spare cells.
pub record IsFeasiblePlanOver (o : Overlap) (hold spare : ℕ) (g : Graph) (d : Datapath) (p : Plan) : Type 0 where
  pub lowered : IsLoweredOver hold spare g d p.assigned.lowered
  pub assigned : AreOnRightUnits d p.assigned
  pub feasible : IsFeasibleOver o d p
  pub unroll : IsCount p.unroll
  pub sizes : (k i : ℕ)
      → k < length p.arcs
      → i < (arc_at p k).copies
      → register_at p k i < file_size d (arc_at p k).port
  pub inputs : p.inputs ≡ g.inputs
  pub outs : p.outs ≡ g.outs

-- A feasible plan whose samples do not overlap, and one of the graph: the hold is that of the datapath, and a line has
-- one spare cell.
abbrev pub IsFeasible : Datapath → Plan → Type 0
IsFeasible d p = IsFeasibleOver one_by_one d p

abbrev pub IsFeasiblePlan : Graph → Datapath → Plan → Type 0
IsFeasiblePlan g d p = IsFeasiblePlanOver one_by_one d.hold 1 g d p
