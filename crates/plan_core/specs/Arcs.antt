-- The lifetimes of words in register files: from the cycle in which a word is written to its last read, which may be in
-- a later sample.
use Rattle.std.specs.Prelude.{◌≡◌, ℕ, ◌+◌, ◌*◌, ◌<◌, ◌≤◌, ◌⊎◌, List, length, slice_index_or, All}
use Rattle.std.specs.List.{AllPairs}
use Rattle.operations.specs.declared.units.PortRef.{PortRef}
use Rattle.datapath.specs.declared.types.Datapath.{Datapath}
use Rattle.plan_core.specs.Hardware.{port_of}
use Rattle.plan_core.specs.Operands.{delay_at, Reads}
use Rattle.plan_core.specs.Assigned.{unit_in}
use Rattle.plan_core.specs.ListSchedule.{cycle_of, ends, IsPortBefore}
use Rattle.plan_core.specs.declared.schedule.Assigned.{Assigned}
use Rattle.plan_core.specs.declared.schedule.Schedule.{Schedule}
use Rattle.plan_core.specs.declared.registers.Arc.{Arc}

-- what stands in the place of an arc that is not there
abbrev pub no_arc : Arc
no_arc = record { node = 0; port = port_of 0 0; w = 0; r = 0; copies = 1 }

-- arc k
abbrev pub arc_of : List Arc → ℕ → Arc
arc_of arcs k = slice_index_or arcs k no_arc

-- node c reads the word of the arc
pub record ReadsArc (a : Assigned) (arc : Arc) (c : ℕ) : Type 0 where
  pub reads : Reads a.lowered.nodes c arc.port.port arc.node
  pub unit : unit_in a.units c ≡ arc.port.unit

-- the cycle in which node c reads at port q, counted from the start of the sample in which the word was written
abbrev pub read_cycle : Datapath → Assigned → Schedule → (c q : ℕ) → ℕ
read_cycle d a s c q = cycle_of s c + delay_at a.lowered.nodes c q * d.period

-- how many registers a lifetime may have in turn
abbrev pub IsCount : ℕ → Type 0
IsCount n = (n ≡ 1) ⊎ (n ≡ 2) ⊎ (n ≡ 4)

-- the lifetime is no longer than so many samples, after which its register is written again
abbrev pub IsCovered : Datapath → Arc → (copies : ℕ) → Type 0
IsCovered d arc copies = arc.r ≤ arc.w + copies * d.period

-- The lifetime of a node's words at a port. The one number says in which cycle the words of a node are written, the
-- other in which cycle node c reads them at port q.
module _ (written_at : (v : ℕ) → ℕ) (read_at : (v c q : ℕ) → ℕ) (d : Datapath) (a : Assigned) where
  pub record IsArcOver (arc : Arc) : Type 0 where
    pub written : arc.w ≡ written_at arc.node
    pub last : (c : ℕ) → ReadsArc a arc c → read_at arc.node c arc.port.port ≤ arc.r
    pub read : (c : ℕ) × ReadsArc a arc c × (arc.r ≡ read_at arc.node c arc.port.port)
    pub count : IsCount arc.copies
    pub covered : IsCovered d arc arc.copies
    pub least : (copies : ℕ) → IsCount copies → IsCovered d arc copies → arc.copies ≤ copies

-- the same in cycles of one sample
abbrev pub IsArc : Datapath → Assigned → Schedule → Arc → Type 0
IsArc d a s arc = IsArcOver (ends d a s) (λ (v c q : ℕ). read_cycle d a s c q) d a arc

-- by w, then node
abbrev pub IsWrittenBefore : Arc → Arc → Type 0
IsWrittenBefore a b = (a.w < b.w) ⊎ ((a.w ≡ b.w) × (a.node < b.node))

-- by unit, port, w, then node
abbrev pub IsArcBefore : Arc → Arc → Type 0
IsArcBefore a b = IsPortBefore a.port b.port ⊎ ((a.port ≡ b.port) × IsWrittenBefore a b)

-- the arc is for the words of node v at the port
pub record IsArcFor (v : ℕ) (port : PortRef) (arc : Arc) : Type 0 where
  pub node : arc.node ≡ v
  pub port_is : arc.port ≡ port

-- one lifetime for each node and each port that reads it, in order
module _ (written_at : (v : ℕ) → ℕ) (read_at : (v c q : ℕ) → ℕ) (d : Datapath) (a : Assigned) where
  pub record IsArcsOver (arcs : List Arc) : Type 0 where
    pub order : AllPairs IsArcBefore arcs
    pub each : All (IsArcOver written_at read_at d a) arcs
    pub every : (c q v : ℕ)
        → Reads a.lowered.nodes c q v
        → (k : ℕ) × (k < length arcs) × IsArcFor v (port_of (unit_in a.units c) q) (arc_of arcs k)

-- the same in cycles of one sample
abbrev pub IsArcs : Datapath → Assigned → Schedule → List Arc → Type 0
IsArcs d a s arcs = IsArcsOver (ends d a s) (λ (v c q : ℕ). read_cycle d a s c q) d a arcs

-- the unroll factor: the greatest count of copies, and at least 1
pub record IsUnroll (arcs : List Arc) (unroll : ℕ) : Type 0 where
  pub some : 1 ≤ unroll
  pub most : All (λ (arc : Arc). arc.copies ≤ unroll) arcs
  pub reached : (unroll ≡ 1) ⊎ ((k : ℕ) × (k < length arcs) × ((arc_of arcs k).copies ≡ unroll))
