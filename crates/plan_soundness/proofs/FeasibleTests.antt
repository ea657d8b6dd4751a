-- Tests of what a feasible plan needs beside its lowered list, over samples that overlap. With these, a worked plan is
-- checked by computing.
use Rattle.std.proofs.Common.{◌≡◌, ap, arith, ℕ, ◌+◌, ◌-◌, ◌*◌, ◌%◌, ◌<◌, ◌≤◌, ◌⊎◌, ⊎_elim}
use Rattle.std.proofs.Common.{length, slice_index_or, All, Contains, true}
use Rattle.std.proofs.lemmas.Bool.{cases_lt}
use Rattle.fix_word.specs.declared.operation.Op.TheVariants as op
use Rattle.operations.specs.Ranges.{to_nat}
use Rattle.datapath.specs.declared.types.Datapath.{Datapath}
use Rattle.datapath.specs.declared.types.Unit.{Unit as FunctionalUnit}
use Rattle.plan_core.specs.Hardware.{unit_of, no_unit, latency_on, gap_on, port_of}
use Rattle.plan_core.specs.Operands.{Reads}
use Rattle.plan_core.specs.Circle.{AreApart}
use Rattle.plan_core.specs.declared.schedule.Transfer.{Transfer}
use Rattle.plan_core.specs.declared.plan.Plan.{Plan}
use Rattle.plan_core.proofs.Tests.{Test, passed, lt, le, eq, like, both, either, implies, below, some_below}
use Rattle.plan_core.proofs.Tests.{each_of}
use Rattle.plan_core.proofs.OperandTests.{same_port, reads}
use Rattle.plan_core.proofs.RegisterTests.{are_apart}
use Rattle.plan_core.proofs.StagedRules.{IsGapAround, gap_around, is_input, is_output, is_load, holds}
use Rattle.micro_image.specs.Operations.{gives}
use Rattle.plan_soundness.specs.Parts.{nodes_of, lines_of, node_at, edge_at, unit_at, cycle_at, transfers_at, arc_at}
use Rattle.plan_soundness.specs.Parts.{line_at}
use Rattle.plan_soundness.specs.Parts.{register_at, ReadsThrough, IsTransferOf, ends_at}
use Rattle.plan_soundness.specs.Samples.{past}
use Rattle.plan_soundness.specs.Overlap.{Overlap, shift_of}
use Rattle.plan_soundness.specs.Lifetimes.{IsLifetime}
use Rattle.plan_soundness.specs.Memory.{store_of, LoadsFrom}
use Rattle.plan_soundness.specs.Feasible.{IsFeasibleOver}
use Rattle.plan_soundness.proofs.Around.{apart_around, own_apart, same_around}
use Rattle.plan_soundness.proofs.Elements.{nth_past, default_any}
use Rattle.plan_soundness.proofs.FromRules.{all_at}
use Rattle.plan_soundness.proofs.SoundLowered.{IsSoundLowered, AreSoundLines}

-- each unit has a gap, no longer than its latency
abbrev HasGap : FunctionalUnit → Type 0
HasGap unit = (0 < unit.gap) × (unit.gap ≤ unit.latency)

abbrev have_gaps : (d : Datapath) → Test (All HasGap d.units)
have_gaps d = each_of d.units (λ (unit : FunctionalUnit). both (lt 0 unit.gap) (le unit.gap unit.latency))

gaps_from : (d : Datapath) → All HasGap d.units → (u : ℕ) → (0 < gap_on d u) × (gap_on d u ≤ latency_on d u)
gaps_from d all u =
    ⊎_elim
    (λ (there : u < length d.units). all u no_unit there)
    (λ (past' : length d.units ≤ u).
    let e : unit_of d u ≡ no_unit = nth_past d.units u no_unit past' in
    let gap : gap_on d u ≡ 1 = ap (λ unit. unit.gap) e in
    let latency : latency_on d u ≡ 1 = ap (λ unit. unit.latency) e in
    (omega (arith, gap), omega (arith, gap, latency)))
    (cases_lt u (length d.units))

module _ (o : Overlap) (d : Datapath) (p : Plan) where
  abbrev count : ℕ
  count = length (nodes_of p)

  -- the place of a cycle in the period
  abbrev around : ℕ → ℕ
  around t = t % d.period

  -- What holds of each node: its edges have no delay, it ends in its stages, and its transfers go over buses that
  -- are there.
  abbrev IsStagedNode : ℕ → Type 0
  IsStagedNode v =
      ((q : ℕ) → q < length (node_at p v).edges → o.first + (edge_at p v q).delay ≤ past)
      × ((unit_at p v < length d.units)
      × ((gap_on d (unit_at p v) ≤ d.period)
      × ((ends_at d p v < o.stages * d.period)
      × ((is_input (node_at p v).op ≡ true → cycle_at p v < d.period)
      × ((is_output (node_at p v).op ≡ true → (o.stages - 1) * d.period ≤ ends_at d p v)
      × All (λ (t : Transfer). (t.bus < length d.buses) × (gives (node_at p v).op ≡ true)) (transfers_at p v))))))

  abbrev are_nodes : Test ((v : ℕ) → v < count → IsStagedNode v)
  are_nodes =
      below count (λ v.
      both (below (length (node_at p v).edges) (λ q. le (o.first + (edge_at p v q).delay) past))
      (both (lt (unit_at p v) (length d.units))
      (both (le (gap_on d (unit_at p v)) d.period)
      (both (lt (ends_at d p v) (o.stages * d.period))
      (both (implies (holds (is_input (node_at p v).op)) (λ z. lt (cycle_at p v) d.period))
      (both (implies (holds (is_output (node_at p v).op)) (λ z. le ((o.stages - 1) * d.period) (ends_at d p v)))
      (each_of (transfers_at p v) (λ (t : Transfer). both (lt t.bus (length d.buses))
      (holds (gives (node_at p v).op))))))))))

  -- two nodes on one unit are its gap apart on the circle
  abbrev AreUnitsFree : Type 0
  AreUnitsFree =
      (u : ℕ) → u < count → (v : ℕ) → v < count → unit_at p u ≡ unit_at p v
      → (u ≡ v) ⊎ IsGapAround d.period (gap_on d (unit_at p u)) (cycle_at p u) (cycle_at p v)

  abbrev are_units_free : Test AreUnitsFree
  are_units_free =
      below count (λ u. below count (λ v. implies (eq (unit_at p u) (unit_at p v)) (λ z.
      either (eq u v) (gap_around d.period (gap_on d (unit_at p u)) (cycle_at p u) (cycle_at p v)))))

  -- a bus has the result of one node in a cycle of the circle, and a file one transfer of a result
  abbrev AreBusesFree : Type 0
  AreBusesFree =
      (u : ℕ) → u < count → (v : ℕ) → v < count → around (ends_at d p u) ≡ around (ends_at d p v)
      → All (λ (s : Transfer). All (λ (t : Transfer). s.bus ≡ t.bus → u ≡ v) (transfers_at p v)) (transfers_at p u)

  abbrev are_buses_free : Test AreBusesFree
  are_buses_free =
      below count (λ u. below count (λ v. implies (eq (around (ends_at d p u)) (around (ends_at d p v))) (λ z.
      each_of (transfers_at p u) (λ (s : Transfer). each_of (transfers_at p v) (λ (t : Transfer).
      implies (eq s.bus t.bus) (λ y. eq u v))))))

  abbrev AreTransfersOnce : Type 0
  AreTransfersOnce =
      (v : ℕ) → v < count
      → All (λ (s : Transfer). All (λ (t : Transfer). s.port ≡ t.port → s.bus ≡ t.bus) (transfers_at p v))
      (transfers_at p v)

  abbrev are_transfers_once : Test AreTransfersOnce
  are_transfers_once =
      below count (λ v. each_of (transfers_at p v) (λ (s : Transfer). each_of (transfers_at p v) (λ (t : Transfer).
      implies (same_port s.port t.port) (λ z. eq s.bus t.bus))))

  -- Lifetimes.

  abbrev no_transfer : Transfer
  no_transfer = record { port = port_of 0 0; bus = 0 }

  -- the transfer of this number of the node of lifetime k
  abbrev transfer_of : (k i : ℕ) → Transfer
  transfer_of k i = slice_index_or (transfers_at p (arc_at p k).node) i no_transfer

  abbrev is_lifetime : (k : ℕ) → Test (IsLifetime d.period p.unroll (arc_at p k))
  is_lifetime k =
      like {P = (0 < (arc_at p k).copies) × ((p.unroll % (arc_at p k).copies ≡ 0) × (((arc_at p k).w < d.period)
      × (((arc_at p k).w < (arc_at p k).r) × ((arc_at p k).r ≤ (arc_at p k).w + (arc_at p k).copies * d.period))))}
      (λ h. record { some = h.0; turns = h.1.0; written = h.1.1.0; lives = h.1.1.1.0; covered = h.1.1.1.1 })
      (λ h. (h.some, (h.turns, (h.written, (h.lives, h.covered)))))
      (both (lt 0 (arc_at p k).copies)
      (both (eq (p.unroll % (arc_at p k).copies) 0)
      (both (lt (arc_at p k).w d.period)
      (both (lt (arc_at p k).w (arc_at p k).r)
      (le (arc_at p k).r ((arc_at p k).w + (arc_at p k).copies * d.period))))))

  abbrev IsLife : ℕ → Type 0
  IsLife k =
      IsLifetime d.period p.unroll (arc_at p k)
      × (((arc_at p k).w + shift_of d p k * d.period ≡ ends_at d p (arc_at p k).node)
      × (((arc_at p k).node < count)
      × ((gives (node_at p (arc_at p k).node).op ≡ true)
      × (((arc_at p k).port.port < 4)
      × ((i : ℕ) × (i < length (transfers_at p (arc_at p k).node))
      × ((transfer_of k i).port ≡ (arc_at p k).port))))))

  abbrev are_lives : Test ((k : ℕ) → k < length p.arcs → IsLife k)
  are_lives =
      below (length p.arcs) (λ k.
      both (is_lifetime k)
      (both (eq ((arc_at p k).w + shift_of d p k * d.period) (ends_at d p (arc_at p k).node))
      (both (lt (arc_at p k).node count)
      (both (holds (gives (node_at p (arc_at p k).node).op))
      (both (lt (arc_at p k).port.port 4)
      (some_below (length (transfers_at p (arc_at p k).node)) (λ i. same_port (transfer_of k i).port
      (arc_at p k).port)))))))

  -- two lifetimes of one file: they are not written in one cycle, and their copies in one register share none
  abbrev AreApartIn : (j k : ℕ) → Type 0
  AreApartIn j k =
      ((arc_at p j).w ≡ (arc_at p k).w → j ≡ k)
      × ((a : ℕ) → a < (arc_at p j).copies → (b : ℕ) → b < (arc_at p k).copies
      → register_at p j a ≡ register_at p k b
      → ((j ≡ k) × (a ≡ b)) ⊎ AreApart d.period p.unroll (arc_at p j) a (arc_at p k) b)

  abbrev AreFilesFree : Type 0
  AreFilesFree =
      (j : ℕ) → j < length p.arcs → (k : ℕ) → k < length p.arcs → (arc_at p j).port ≡ (arc_at p k).port
      → AreApartIn j k

  abbrev are_files_free : Test AreFilesFree
  are_files_free =
      below (length p.arcs) (λ j. below (length p.arcs) (λ k.
      implies (same_port (arc_at p j).port (arc_at p k).port) (λ z.
      both (implies (eq (arc_at p j).w (arc_at p k).w) (λ y. eq j k))
      (below (arc_at p j).copies (λ a. below (arc_at p k).copies (λ b.
      implies (eq (register_at p j a) (register_at p k b)) (λ y.
      either (both (eq j k) (eq a b)) (are_apart d.period p.unroll (arc_at p j) a (arc_at p k) b))))))))

  abbrev reads_through : (v q k : ℕ) → Test (ReadsThrough p v q k)
  reads_through v q k =
      like {P = (k < length p.arcs) × (((arc_at p k).port ≡ port_of (unit_at p v) q)
      × Reads (nodes_of p) v q (arc_at p k).node)}
      (λ h. record { there = h.0; port = h.1.0; reads = h.1.1 }) (λ h. (h.there, (h.port, h.reads)))
      (both (lt k (length p.arcs)) (both (same_port (arc_at p k).port (port_of (unit_at p v) q))
      (reads (nodes_of p) v q (arc_at p k).node)))

  -- node v reads at port q after the write of lifetime k and not after its end
  abbrev IsReadIn : (v q k : ℕ) → Type 0
  IsReadIn v q k =
      (ends_at d p (arc_at p k).node < cycle_at p v + (edge_at p v q).delay * d.period)
      × (cycle_at p v + (edge_at p v q).delay * d.period ≤ (arc_at p k).r + shift_of d p k * d.period)

  abbrev AreReads : Type 0
  AreReads =
      (v : ℕ) → v < count → (q : ℕ) → q < length (node_at p v).edges
      → ((k : ℕ) × (k < length p.arcs) × ReadsThrough p v q k)
      × ((k : ℕ) → k < length p.arcs → ReadsThrough p v q k → IsReadIn v q k)

  abbrev are_reads : Test AreReads
  are_reads =
      below count (λ v. below (length (node_at p v).edges) (λ q.
      both (some_below (length p.arcs) (λ k. reads_through v q k))
      (below (length p.arcs) (λ k. implies (reads_through v q k) (λ z.
      both (lt (ends_at d p (arc_at p k).node) (cycle_at p v + (edge_at p v q).delay * d.period))
      (le (cycle_at p v + (edge_at p v q).delay * d.period) ((arc_at p k).r + shift_of d p k * d.period)))))))

  -- a load is issued after the end of the store of what it reads; its address tells which word that is
  abbrev AreLoadsIn : Type 0
  AreLoadsIn =
      (v : ℕ) → v < count → is_load (node_at p v).op ≡ true
      → (l : ℕ) → l < length (lines_of p)
      → (ago : ℕ) → ago < (line_at p l).depth + 1
      → to_nat (node_at p (edge_at p v 0).node).arg ≡ (line_at p l).offset + ago
      → 0 < ago → ends_at d p (store_of (line_at p l)) < cycle_at p v + ago * d.period

  abbrev are_loads_in : Test AreLoadsIn
  are_loads_in =
      below count (λ v. implies (holds (is_load (node_at p v).op)) (λ z.
      below (length (lines_of p)) (λ l. below ((line_at p l).depth + 1) (λ ago.
      implies (eq (to_nat (node_at p (edge_at p v 0).node).arg) ((line_at p l).offset + ago)) (λ y.
      implies (lt 0 ago) (λ x. lt (ends_at d p (store_of (line_at p l))) (cycle_at p v + ago * d.period)))))))

  -- The plan is feasible, by computing. Lifetimes keep words of no sample before sample 0.
  pub feasible_by : IsSoundLowered d p
      → AreSoundLines o d p
      → 0 < d.period
      → 0 < o.stages
      → o.first ≡ past
      → 0 < p.unroll
      → past % p.unroll ≡ 0
      → (have_gaps d).passes ≡ true
      → are_nodes.passes ≡ true
      → are_units_free.passes ≡ true
      → are_buses_free.passes ≡ true
      → are_transfers_once.passes ≡ true
      → are_lives.passes ≡ true
      → are_files_free.passes ≡ true
      → are_reads.passes ≡ true
      → are_loads_in.passes ≡ true
      → IsFeasibleOver o d p
  feasible_by sound memory period stages first unroll turns gaps nodes units buses once lives files reads' loads =
      let node = passed are_nodes nodes in
      let life = passed are_lives lives in
      let file = passed are_files_free files in
      let read = passed are_reads reads' in
      record {
        period = period;
        stages = stages;
        first = omega (arith, first);
        unroll = unroll;
        turns = turns;
        gaps = gaps_from d (passed (have_gaps d) gaps);
        operand_count = sound.operand_count;
        edges = λ v q in-v in-q. ((sound.edges v q in-v in-q).0, (node v in-v).0 q in-q);
        outputs = sound.outputs;
        units = λ v in-v. (node v in-v).1.0;
        buses = λ v t in-v in-t. (transfer_at v t in-v in-t).0;
        fits = λ v in-v. (node v in-v).1.1.1.0;
        inputs = λ v in-v is. (node v in-v).1.1.1.1.0 (ap is_input is);
        outputs_last = λ v in-v is. (node v in-v).1.1.1.1.1.0 (ap is_output is);
        unit_free = units_free;
        bus_free = buses_free;
        transfer_once = transfer_once;
        transfers = λ v t in-v in-t. (transfer_at v t in-v in-t).1;
        arcs = λ k in-k.
            let is = life k in-k in record {
              lifetime = is.0;
              written = is.1.0;
              node = is.1.1.0;
              result = is.1.1.1.0;
              transfer = transfer_to k in-k is.1.1.1.1.1;
            };
        early = λ k s in-k from before. absurd (omega (arith, from, before, first));
        file_free = λ j k in-j in-k port w. (file j in-j k in-k port).0 w;
        ports = λ k in-k. (life k in-k).1.1.1.1.0;
        read = λ v q in-v in-q. let by = (read v in-v q in-q).0 in (by.0, by.2);
        read_in = λ v q k in-v through. (read v in-v q through.reads.port).1 k through.there through;
        registers = λ j k a b in-j in-k in-a in-b port same. (file j in-j k in-k port).1 a in-a b in-b same;
        memory = memory;
        load_in = load_in;
      }
    where
      transfer_at : (v : ℕ) (t : Transfer)
          → v < count
          → Contains (transfers_at p v) t
          → (t.bus < length d.buses) × (gives (node_at p v).op ≡ true)
      transfer_at v t in-v in-t =
          all_at (λ (t : Transfer). (t.bus < length d.buses) × (gives (node_at p v).op ≡ true)) (transfers_at p v) t
          (passed are_nodes nodes v in-v).1.1.1.1.1.1 in-t

      units_free : (u v s n : ℕ)
          → u < count
          → v < count
          → unit_at p u ≡ unit_at p v
          → cycle_at p u + s * d.period ≤ cycle_at p v + n * d.period
          → cycle_at p v + n * d.period < cycle_at p u + s * d.period + gap_on d (unit_at p u)
          → (u ≡ v) × (s ≡ n)
      units_free u v s n in-u in-v unit le near =
          let small : gap_on d (unit_at p u) ≤ d.period = (passed are_nodes nodes u in-u).1.1.0 in
          ⊎_elim
          (λ (same : u ≡ v).
          let cycle : cycle_at p u ≡ cycle_at p v = ap (cycle_at p) same in (
            same,
            own_apart (cycle_at p u) s n d.period (gap_on d (unit_at p u)) period small (omega (arith, le, cycle))
                (omega (arith, near, cycle)),
          ))
          (λ apart.
          absurd (apart_around (cycle_at p u) (cycle_at p v) s n d.period (gap_on d (unit_at p u)) period small apart le
          near))
          (passed are_units_free units u in-u v in-v unit)

      buses_free : (u v m n : ℕ) (s t : Transfer)
          → u < count
          → v < count
          → Contains (transfers_at p u) s
          → Contains (transfers_at p v) t
          → ends_at d p u + m * d.period ≡ ends_at d p v + n * d.period
          → s.bus ≡ t.bus
          → u ≡ v
      buses_free u v m n s t in-u in-v in-s in-t e bus =
          all_at (λ (t : Transfer). s.bus ≡ t.bus → u ≡ v) (transfers_at p v) t
          (all_at (λ (s : Transfer). All (λ (t : Transfer). s.bus ≡ t.bus → u ≡ v) (transfers_at p v))
          (transfers_at p u) s
          (passed are_buses_free buses u in-u v in-v (same_around (ends_at d p u) (ends_at d p v) m n d.period e)) in-s)
          in-t bus

      transfer_once : (v : ℕ) (s t : Transfer)
          → v < count
          → Contains (transfers_at p v) s
          → Contains (transfers_at p v) t
          → s.port ≡ t.port
          → s.bus ≡ t.bus
      transfer_once v s t in-v in-s in-t port =
          all_at (λ (t : Transfer). s.port ≡ t.port → s.bus ≡ t.bus) (transfers_at p v) t
          (all_at (λ (s : Transfer). All (λ (t : Transfer). s.port ≡ t.port → s.bus ≡ t.bus) (transfers_at p v))
          (transfers_at p v) s (passed are_transfers_once once v in-v) in-s) in-t port

      transfer_to : (k : ℕ)
          → k < length p.arcs
          → (i : ℕ) × (i < length (transfers_at p (arc_at p k).node)) × ((transfer_of k i).port ≡ (arc_at p k).port)
          → (t : Transfer) × IsTransferOf p k t
      transfer_to k in-k (i, in-i, port) = (
        transfer_of k i,
        record {
          there = in-k;
          among = (i, in-i, default_any (transfers_at p (arc_at p k).node) i (transfer_of k i) no_transfer in-i);
          port = port;
        },
      )

      load_in : (v l ago : ℕ)
          → v < count
          → (node_at p v).op ≡ op.Load
          → LoadsFrom d p v l ago
          → ends_at d p (store_of (line_at p l)) < cycle_at p v + ago * d.period
      load_in v l ago in-v is from =
          passed are_loads_in loads v in-v (ap is_load is) l from.there ago (omega (arith, from.depth))
          (ap to_nat from.address.argument) from.before
