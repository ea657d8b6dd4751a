-- What a microprogram does that executes a plan, by cycles counted from the start of the run.
use Rattle.std.specs.Prelude.{◌≡◌, ℕ, ◌+◌, ◌-◌, ◌*◌, ◌%◌, ◌<◌, ◌≤◌, length, ℤ, pos, ◌-ℤ◌, Some, Contains}
use Rattle.std.specs.Int.{int_rem_euclid}
use Rattle.std.specs.List.{AllPairs}
use Rattle.fix_word.specs.declared.operation.Op.TheVariants.{Addr}
use Rattle.datapath.specs.declared.types.Datapath.{Datapath}
use Rattle.signal_graph.specs.Rules.{word_before}
use Rattle.plan_core.specs.Hardware.{latency_on, gap_on, cells_on, tie_of}
use Rattle.plan_core.specs.declared.schedule.Transfer.{Transfer}
use Rattle.plan_core.specs.declared.plan.Plan.{Plan}
use Rattle.micro_image.specs.declared.image.Enable.{Enable}
use Rattle.micro_image.specs.declared.image.Issue.{Issue}
use Rattle.micro_image.specs.declared.image.Take.{Take}
use Rattle.micro_image.specs.Fields.{Microprogram, nth, unit_of, sample_of, issue_at, driver_at}
use Rattle.micro_image.specs.Log.{Register, Cell, initial}
use Rattle.plan_soundness.specs.Parts.{nodes_of, lines_of, node_at, edge_at, unit_at, cycle_at, transfers_at, arc_at}
use Rattle.plan_soundness.specs.Parts.{line_at}
use Rattle.plan_soundness.specs.Parts.{register_at, ReadsThrough, IsTransferOf, ends_at}
use Rattle.plan_soundness.specs.Samples.{past}
use Rattle.plan_soundness.specs.Overlap.{Overlap, one_by_one, shift_of}

-- the register that has the word of lifetime k of sample number s
abbrev pub register_in : Datapath → Plan → (k s : ℕ) → ℕ
register_in d p k s = register_at p k ((s + shift_of d p k) % (arc_at p k).copies)

-- in the cycle of its issue the argument gives the cell that the address of node v has in sample n
abbrev pub IsCellArg : Datapath → Plan → Microprogram → (v n : ℕ) → ℤ → Type 0
IsCellArg d p micro v n arg =
    int_rem_euclid (arg -ℤ pos (sample_of micro (n * d.period + cycle_at p v)))
    (pos (cells_on d (tie_of d (unit_at p v))))
    ≡ int_rem_euclid ((node_at p v).arg -ℤ pos n) (pos (cells_on d (tie_of d (unit_at p v))))

-- the issue of node v in sample n
pub record IsIssueIn (d : Datapath) (p : Plan) (micro : Microprogram) (v n : ℕ) (issue : Issue) : Type 0 where
  pub unit : issue.unit ≡ unit_at p v
  pub op : issue.op ≡ (node_at p v).op
  pub fmt : issue.fmt ≡ (node_at p v).fmt
  pub arg : ((node_at p v).op ≡ Addr → ⊥) → issue.arg ≡ (node_at p v).arg
  pub address : (node_at p v).op ≡ Addr → IsCellArg d p micro v n issue.arg
  pub regs : (q k : ℕ)
      → ReadsThrough p v q k
      → nth issue.regs q 0 ≡ register_in d p k (past + n - (edge_at p v q).delay)

-- the take of lifetime k in sample n, at cycle t of the run, from the unit of its node
pub record IsTakeIn (d : Datapath) (p : Plan) (micro : Microprogram) (k n t : ℕ) (take : Take) : Type 0 where
  pub port : take.port ≡ (arc_at p k).port
  pub reg : take.reg ≡ register_in d p k n
  pub transfer : (s : Transfer) × IsTransferOf p k s × (s.bus ≡ take.bus)
  pub driver : (e : Enable) × (driver_at micro t take.bus ≡ Some e) × (e.unit ≡ unit_at p (arc_at p k).node)

-- the enable of a transfer of the result of node v
pub record IsEnableOf (p : Plan) (v : ℕ) (enable : Enable) : Type 0 where
  pub node : v < length (nodes_of p)
  pub transfer : (t : Transfer) × Contains (transfers_at p v) t × (t.bus ≡ enable.bus)
  pub unit : unit_at p v ≡ enable.unit

-- The microprogram does in sample n, counted from its first cycle n * period, what the plan has in each cycle of
-- a sample.
pub record ExecutesOver (o : Overlap) (d : Datapath) (p : Plan) (micro : Microprogram) : Type 0 where
  pub period : micro.period ≡ d.period
  pub latency : (u : ℕ) → (unit_of micro u).latency ≡ latency_on d u
  pub gap : (u : ℕ) → (unit_of micro u).gap ≡ gap_on d u
  pub cells : (u : ℕ) → length (unit_of micro u).cells ≡ cells_on d u
  pub ram : (u : ℕ) → (unit_of micro u).ram ≡ tie_of d u
  pub known : (v : ℕ) → v < length (nodes_of p) → unit_at p v < length micro.units
  pub issue : (v n : ℕ)
      → v < length (nodes_of p)
      → (issue : Issue)
      × (issue_at micro (n * d.period + cycle_at p v) (unit_at p v) ≡ Some issue)
      × IsIssueIn d p micro v n issue
  pub issue_only : (t u : ℕ) (issue : Issue)
      → issue_at micro t u ≡ Some issue
      → (v : ℕ) × (n : ℕ) × (v < length (nodes_of p)) × (unit_at p v ≡ u) × (t ≡ n * d.period + cycle_at p v)
  pub take : (k n : ℕ)
      → k < length p.arcs
      → (take : Take)
      × Contains (micro.word_at (n * d.period + ends_at d p (arc_at p k).node)).takes take
      × IsTakeIn d p micro k n (n * d.period + ends_at d p (arc_at p k).node) take
  pub take_only : (t : ℕ) (take : Take)
      → Contains (micro.word_at t).takes take
      → (k : ℕ)
      × (n : ℕ)
      × (k < length p.arcs)
      × (t ≡ n * d.period + ends_at d p (arc_at p k).node)
      × IsTakeIn d p micro k n t take
  pub enable_only : (t : ℕ) (enable : Enable)
      → Contains (micro.word_at t).enables enable
      → (v : ℕ) × (n : ℕ) × (t ≡ n * d.period + ends_at d p v) × IsEnableOf p v enable
  pub enables_differ : (t : ℕ)
      → AllPairs (λ (a b : Enable). a.unit ≡ b.unit → a.bus ≡ b.bus → ⊥) (micro.word_at t).enables
  pub takes_differ : (t : ℕ)
      → AllPairs (λ (a b : Take). a.port ≡ b.port → a.bus ≡ b.bus → a.reg ≡ b.reg → ⊥) (micro.word_at t).takes
  -- what is read for a sample before sample 0 is there at the start
  pub first : (k s : ℕ)
      → k < length p.arcs
      → o.first ≤ s
      → s < past
      → past * d.period ≤ (arc_at p k).r + (s + shift_of d p k) * d.period
      → initial micro (Register (arc_at p k).port.unit (arc_at p k).port.port (register_in d p k s))
      ≡ word_before (node_at p (arc_at p k).node).inits (past - s)
  pub first_cells : (l ago : ℕ)
      → l < length (lines_of p)
      → 0 < ago
      → ago ≤ (line_at p l).depth
      → initial micro (Cell (line_at p l).ram ((line_at p l).offset + ago))
      ≡ word_before (node_at p (line_at p l).node).inits ago

-- the microprogram executes a plan whose samples do not overlap
abbrev pub Executes : Datapath → Plan → Microprogram → Type 0
Executes d p micro = ExecutesOver one_by_one d p micro
