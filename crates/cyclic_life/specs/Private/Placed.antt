-- The reads of a schedule.
use Rattle.std.specs.Prelude.{◌≡◌, ℕ, ◌+◌, ◌^◌, ◌<◌, ◌≤◌, ◌⊎◌, List, length, slice_index_or, All, Contains}
use Rattle.datapath.specs.declared.types.Datapath.{Datapath}
use Rattle.plan_core.specs.Operands.{node_of, delay_at, Reads}
use Rattle.plan_core.specs.Assigned.{unit_in}
use Rattle.plan_core.specs.Heights.{latency_of}
use Rattle.plan_core.specs.ListSchedule.{cycle_of, ends}
use Rattle.plan_core.specs.Arcs.{read_cycle}
use Rattle.plan_core.specs.Stages.{written_around, read_around}
use Rattle.plan_core.specs.declared.schedule.Assigned.{Assigned}
use Rattle.plan_core.specs.declared.schedule.Schedule.{Schedule}
use Rattle.cyclic_life.specs.Private.Reads.{around_of}
use Rattle.cyclic_life.specs.declared.read.Read.{Read}

-- no node ends later, over how many stages its sample may be issued
abbrev pub last_end : ℕ
last_end = 16384

module _ (d : Datapath) (a : Assigned) (s : Schedule) where
  -- each node has its unit and its slot, and reads nodes that are there, at most three samples ago
  pub record IsPlacement : Type 0 where
    pub period : d.period ≤ 4096
    pub node_count : length a.lowered.nodes < 2 ^ 32
    pub unit_count : length a.units ≡ length a.lowered.nodes
    pub slot_count : length s.slots ≡ length a.lowered.nodes
    pub units : (v : ℕ) → v < length a.lowered.nodes → unit_in a.units v < length d.units
    pub latencies : (v : ℕ) → v < length a.lowered.nodes → 1 ≤ latency_of d a v
    pub ends_within : (v : ℕ) → v < length a.lowered.nodes → cycle_of s v + latency_of d a v ≤ last_end
    pub ports : (c : ℕ) → c < length a.lowered.nodes → length (node_of a.lowered.nodes c).edges ≤ 3
    pub operands : (c q v : ℕ) → Reads a.lowered.nodes c q v → v < length a.lowered.nodes
    pub delays : (c q v : ℕ) → Reads a.lowered.nodes c q v → delay_at a.lowered.nodes c q ≤ 3

-- by when words are written and read
module _ (written_at : (v : ℕ) → ℕ) (read_at : (v c q : ℕ) → ℕ) (a : Assigned) where
  -- the read of node v at port q of node c
  abbrev pub read_over : (c q v : ℕ) → Read
  read_over c q v = record {
    unit = unit_in a.units c;
    port = q;
    w = written_at v;
    node = v;
    r = read_at v c q;
  }

  -- some node reads so
  pub record IsReadOver (x : Read) : Type 0 where
    pub c : ℕ
    pub reads : Reads a.lowered.nodes c x.port x.node
    pub unit : unit_in a.units c ≡ x.unit
    pub written : x.w ≡ written_at x.node
    pub cycle : x.r ≡ read_at x.node c x.port

  -- the reads of the first n nodes, and of node n at its first m ports
  pub record AreReadsBeforeOver (n m : ℕ) (reads : List Read) : Type 0 where
    pub each : All IsReadOver reads
    pub every : (c q v : ℕ)
        → (c < n) ⊎ ((c ≡ n) × (q < m))
        → Reads a.lowered.nodes c q v
        → Contains reads (read_over c q v)

  -- the reads of all nodes
  pub record AreReadsOver (reads : List Read) : Type 0 where
    pub each : All IsReadOver reads
    pub every : (c q v : ℕ) → Reads a.lowered.nodes c q v → Contains reads (read_over c q v)

-- the same in cycles of one sample
module _ (d : Datapath) (a : Assigned) (s : Schedule) where
  abbrev pub read_in : (v c q : ℕ) → ℕ
  read_in v c q = read_cycle d a s c q

  abbrev pub read_of : (c q v : ℕ) → Read
  read_of c q v = read_over (ends d a s) read_in a c q v

  abbrev pub IsRead : Read → Type 0
  IsRead x = IsReadOver (ends d a s) read_in a x

  abbrev pub AreReadsBefore : (n m : ℕ) → List Read → Type 0
  AreReadsBefore n m reads = AreReadsBeforeOver (ends d a s) read_in a n m reads

  abbrev pub AreReads : List Read → Type 0
  AreReads reads = AreReadsOver (ends d a s) read_in a reads

  -- the same around the period, where samples overlap
  abbrev pub AreReadsAround : List Read → Type 0
  AreReadsAround reads = AreReadsOver (written_around d a s) (read_around d a s) a reads

  -- each word is read no earlier than it is there
  abbrev pub AreReadLater : Type 0
  AreReadLater = (c q v : ℕ) → Reads a.lowered.nodes c q v → ends d a s v ≤ read_cycle d a s c q

  -- the first k reads are around the period
  pub record AreAroundUpTo (k : ℕ) (reads new : List Read) : Type 0 where
    pub count : length new ≡ length reads
    pub done : (i : ℕ) (x : Read) → i < k → slice_index_or new i x ≡ around_of d.period (slice_index_or reads i x)
    pub left : (i : ℕ) (x : Read) → k ≤ i → slice_index_or new i x ≡ slice_index_or reads i x
