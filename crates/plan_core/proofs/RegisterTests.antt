-- Tests of lifetimes, the unroll factor and first fit.
use Rattle.std.proofs.Common.{◌≡◌, refl, sym, subst, ap, ◌∙◌, arith, ℕ, ◌+◌, ◌-◌, ◌*◌, ◌%◌, ◌<◌, ◌≤◌, ◌⊎◌, inl, inr}
use Rattle.std.proofs.Common.{List, [], length, slice_index_or, All}
use Rattle.std.specs.List.{AllPairs}
use Rattle.operations.specs.declared.units.PortRef.{PortRef}
use Rattle.datapath.specs.declared.types.Datapath.{Datapath}
use Rattle.plan_core.specs.Hardware.{port_of, file_size}
use Rattle.plan_core.specs.Operands.{Reads}
use Rattle.plan_core.specs.Assigned.{unit_in}
use Rattle.plan_core.specs.ListSchedule.{ends}
use Rattle.plan_core.specs.Arcs.{arc_of, ReadsArc, read_cycle, IsCount, IsCovered, IsArcOver, IsArc, IsWrittenBefore}
use Rattle.plan_core.specs.Arcs.{IsArcBefore, IsArcFor, IsArcsOver, IsArcs, IsUnroll}
use Rattle.plan_core.specs.Circle.{AreApart}
use Rattle.plan_core.specs.FirstFit.{register_of, IsCopyBefore, IsFree, IsFirstFree, IsFirstFit}
use Rattle.plan_core.specs.Refusals.{HasRegister}
use Rattle.plan_core.specs.declared.registers.Arc.{Arc}
use Rattle.plan_core.specs.declared.schedule.Assigned.{Assigned}
use Rattle.plan_core.specs.declared.schedule.Schedule.{Schedule}
use Rattle.plan_core.proofs.Tests.{Test, lt, le, eq, like, nay, both, either, implies, below, some_below, each_of}
use Rattle.plan_core.proofs.Tests.{all_pairs}
use Rattle.plan_core.proofs.Readers.{reader_there}
use Rattle.plan_core.proofs.OperandTests.{same_port, reads, each_operand}
use Rattle.plan_core.proofs.ScheduleTests.{port_before}

abbrev is_count : (n : ℕ) → Test (IsCount n)
is_count n =
    like {P = (n ≡ 1) ⊎ ((n ≡ 2) ⊎ (n ≡ 4))} to from (either (eq n 1) (either (eq n 2) (eq n 4)))
  where
    to : (n ≡ 1) ⊎ ((n ≡ 2) ⊎ (n ≡ 4)) → IsCount n
    to h = h

    from : IsCount n → (n ≡ 1) ⊎ ((n ≡ 2) ⊎ (n ≡ 4))
    from h = h

abbrev written_before : (a b : Arc) → Test (IsWrittenBefore a b)
written_before a b = either (lt a.w b.w) (both (eq a.w b.w) (lt a.node b.node))

abbrev arc_before : (a b : Arc) → Test (IsArcBefore a b)
arc_before a b = either (port_before a.port b.port) (both (same_port a.port b.port) (written_before a b))

module _ (written_at : (v : ℕ) → ℕ) (read_at : (v c q : ℕ) → ℕ) (d : Datapath) (a : Assigned) where
  abbrev reads_arc : (arc : Arc) (c : ℕ) → Test (ReadsArc a arc c)
  reads_arc arc c =
      like {P = Reads a.lowered.nodes c arc.port.port arc.node × (unit_in a.units c ≡ arc.port.unit)}
      (λ h. record { reads = h.0; unit = h.1 }) (λ h. (h.reads, h.unit))
      (both (reads a.lowered.nodes c arc.port.port arc.node) (eq (unit_in a.units c) arc.port.unit))

  abbrev Last : Arc → Type 0
  Last arc = (c : ℕ) → c < length a.lowered.nodes → ReadsArc a arc c → read_at arc.node c arc.port.port ≤ arc.r

  abbrev Read : Arc → Type 0
  Read arc = (c : ℕ) × (c < length a.lowered.nodes) × (ReadsArc a arc c × (arc.r ≡ read_at arc.node c arc.port.port))

  abbrev Least : Arc → Type 0
  Least arc =
      (IsCovered d arc 1 → arc.copies ≤ 1) × ((IsCovered d arc 2 → arc.copies ≤ 2) × (IsCovered d arc 4
      → arc.copies ≤ 4))

  pub least_to : (arc : Arc) → Least arc → (copies : ℕ) → IsCount copies → IsCovered d arc copies → arc.copies ≤ copies
  least_to arc h copies (inl e) cover = subst (λ (n : ℕ). IsCovered d arc n → arc.copies ≤ n) (sym e) h.0 cover
  least_to arc h copies (inr (inl e)) cover = subst (λ (n : ℕ). IsCovered d arc n → arc.copies ≤ n) (sym e) h.1.0 cover
  least_to arc h copies (inr (inr e)) cover = subst (λ (n : ℕ). IsCovered d arc n → arc.copies ≤ n) (sym e) h.1.1 cover

  abbrev covered : (arc : Arc) (copies : ℕ) → Test (IsCovered d arc copies)
  covered arc copies = le arc.r (arc.w + copies * d.period)

  abbrev least : (arc : Arc) → Test (Least arc)
  least arc =
      both (implies (covered arc 1) (λ z. le arc.copies 1))
      (both (implies (covered arc 2) (λ z. le arc.copies 2)) (implies (covered arc 4) (λ z. le arc.copies 4)))

  abbrev pub is_arc_over : (arc : Arc) → Test (IsArcOver written_at read_at d a arc)
  is_arc_over arc =
      like {P = (arc.w ≡ written_at arc.node) × (Last arc × (Read arc × (IsCount arc.copies
      × (IsCovered d arc arc.copies × Least arc))))}
      (λ h. record {
        written = h.0;
        last = λ c r. h.1.0 c (reader_there a.lowered.nodes c arc.port.port arc.node r.reads) r;
        read = (h.1.1.0.0, h.1.1.0.2.0, h.1.1.0.2.1);
        count = h.1.1.1.0;
        covered = h.1.1.1.1.0;
        least = least_to arc h.1.1.1.1.1;
      })
      (λ h. (
        h.written,
        (
          λ c less r. h.last c r,
          (
            (
              h.read.0,
              reader_there a.lowered.nodes h.read.0 arc.port.port arc.node h.read.1.reads,
              (h.read.1, h.read.2),
            ),
            (h.count, (h.covered, (h.least 1 (inl refl), (h.least 2 (inr (inl refl)), h.least 4 (inr (inr refl)))))),
          ),
        ),
      ))
      (both (eq arc.w (written_at arc.node))
      (both (below (length a.lowered.nodes) (λ c. implies (reads_arc arc c)
      (λ z. le (read_at arc.node c arc.port.port) arc.r)))
      (both (some_below (length a.lowered.nodes) (λ c. both (reads_arc arc c)
      (eq arc.r (read_at arc.node c arc.port.port))))
      (both (is_count arc.copies)
      (both (covered arc arc.copies) (least arc))))))

  abbrev Has : List Arc → ℕ → ℕ → ℕ → Type 0
  Has arcs c q v =
      (k : ℕ) × (k < length arcs) × IsArcFor v (port_of (unit_in a.units c) q) (arc_of arcs k)

  abbrev is_arc_for : (v : ℕ) (port : PortRef) (arc : Arc) → Test (IsArcFor v port arc)
  is_arc_for v port arc =
      like {P = (arc.node ≡ v) × (arc.port ≡ port)} (λ h. record { node = h.0; port_is = h.1 })
      (λ h. (h.node, h.port_is))
      (both (eq arc.node v) (same_port arc.port port))

  abbrev pub are_arcs_over : (arcs : List Arc) → Test (IsArcsOver written_at read_at d a arcs)
  are_arcs_over arcs =
      like {P =
      AllPairs IsArcBefore arcs
      × (All (IsArcOver written_at read_at d a) arcs × ((c : ℕ) → c < length a.lowered.nodes
      → (q v : ℕ) → Reads a.lowered.nodes c q v → Has arcs c q v))}
      (λ h. record {
        order = h.0;
        each = h.1.0;
        every = λ c q v r. h.1.1 c (reader_there a.lowered.nodes c q v r) q v r;
      })
      (λ h. (h.order, (h.each, λ c less q v r. h.every c q v r)))
      (both (all_pairs arcs arc_before)
      (both (each_of arcs is_arc_over)
      (below (length a.lowered.nodes) (λ c. each_operand a.lowered.nodes c (λ q v.
      some_below (length arcs) (λ k. is_arc_for v (port_of (unit_in a.units c) q) (arc_of arcs k)))))))

-- the same in cycles of one sample
abbrev pub is_arc : (d : Datapath) (a : Assigned) (s : Schedule) (arc : Arc) → Test (IsArc d a s arc)
is_arc d a s arc = is_arc_over (ends d a s) (λ (v c q : ℕ). read_cycle d a s c q) d a arc

abbrev pub are_arcs : (d : Datapath) (a : Assigned) (s : Schedule) (arcs : List Arc) → Test (IsArcs d a s arcs)
are_arcs d a s arcs = are_arcs_over (ends d a s) (λ (v c q : ℕ). read_cycle d a s c q) d a arcs

abbrev pub is_unroll : (arcs : List Arc) (unroll : ℕ) → Test (IsUnroll arcs unroll)
is_unroll arcs unroll =
    like {P = (1 ≤ unroll) × (All (λ (arc : Arc). arc.copies ≤ unroll) arcs × ((unroll ≡ 1) ⊎ ((k : ℕ)
    × (k < length arcs) × ((arc_of arcs k).copies ≡ unroll))))}
    (λ h. record { some = h.0; most = h.1.0; reached = h.1.1 }) (λ h. (h.some, (h.most, h.reached)))
    (both (le 1 unroll)
    (both (each_of arcs (λ (arc : Arc). le arc.copies unroll))
    (either (eq unroll 1) (some_below (length arcs) (λ k. eq (arc_of arcs k).copies unroll)))))

module _ (period unroll : ℕ) where
  -- the cycle that is c + 1 after the write of sample n
  abbrev pub living : (arc : Arc) (n c : ℕ) → ℕ
  living arc n c = arc.w + n * period + 1 + c

  abbrev pub NeverMeet : Arc → ℕ → Arc → ℕ → Type 0
  NeverMeet a i b j =
      (n : ℕ) → n < unroll → n % a.copies ≡ i → (m : ℕ) → m < unroll → m % b.copies ≡ j
      → (c : ℕ) → c < a.r - a.w → (e : ℕ) → e < b.r - b.w
      → living a n c % (unroll * period) ≡ living b m e % (unroll * period) → ⊥

  pub place_in : (w r q cycle : ℕ)
      → w + q < cycle
      → cycle ≤ r + q
      → (cycle - (w + q) - 1 < r - w) × (w + q + 1 + (cycle - (w + q) - 1) ≡ cycle)
  place_in w r q cycle after upto = (omega arith, omega arith)

  pub apart_from : (a : Arc) (i : ℕ) (b : Arc) (j : ℕ) → NeverMeet a i b j → AreApart period unroll a i b j
  apart_from a i b j h = record {
    none = λ x o p.
        let at_o = place_in a.w a.r (o.sample * period) o.cycle o.after o.upto in
        let at_p = place_in b.w b.r (p.sample * period) p.cycle p.after p.upto in
        h o.sample o.sample_in o.in_turn p.sample p.sample_in p.in_turn
        (o.cycle - (a.w + o.sample * period) - 1) at_o.0 (p.cycle - (b.w + p.sample * period) - 1) at_p.0
        (ap (λ (z : ℕ). z % (unroll * period)) at_o.1 ∙ sym o.place ∙ p.place ∙ sym
        (ap (λ (z : ℕ). z % (unroll * period)) at_p.1));
  }

  pub lives : (w r q c : ℕ) → c < r - w → (w + q < w + q + 1 + c) × (w + q + 1 + c ≤ r + q)
  lives w r q c less = (omega arith, omega arith)

  pub meet_from : (a : Arc) (i : ℕ) (b : Arc) (j : ℕ) → AreApart period unroll a i b j → NeverMeet a i b j
  meet_from a i b j h n less turn m less_m turn_m c less_c e less_e same =
      h.none (living a n c % (unroll * period))
      (record {
        sample = n;
        cycle = living a n c;
        sample_in = less;
        in_turn = turn;
        after = (lives a.w a.r (n * period) c less_c).0;
        upto = (lives a.w a.r (n * period) c less_c).1;
        place = refl;
      })
      (record {
        sample = m;
        cycle = living b m e;
        sample_in = less_m;
        in_turn = turn_m;
        after = (lives b.w b.r (m * period) e less_e).0;
        upto = (lives b.w b.r (m * period) e less_e).1;
        place = same;
      })

  abbrev pub are_apart : (a : Arc) (i : ℕ) (b : Arc) (j : ℕ) → Test (AreApart period unroll a i b j)
  are_apart a i b j =
      like (apart_from a i b j) (meet_from a i b j)
      (below unroll (λ n. implies (eq (n % a.copies) i) (λ z.
      below unroll (λ m. implies (eq (m % b.copies) j) (λ y.
      below (a.r - a.w) (λ c. below (b.r - b.w) (λ e.
      nay (eq (living a n c % (unroll * period)) (living b m e % (unroll * period))))))))))

  abbrev copy_before : (a : Arc) (i : ℕ) (b : Arc) (j : ℕ) → Test (IsCopyBefore a i b j)
  copy_before a i b j =
      like {P = IsWrittenBefore a b ⊎ ((a.w ≡ b.w) × ((a.node ≡ b.node) × (i < j)))} to from
      (either (written_before a b) (both (eq a.w b.w) (both (eq a.node b.node) (lt i j))))
    where
      to : IsWrittenBefore a b ⊎ ((a.w ≡ b.w) × ((a.node ≡ b.node) × (i < j))) → IsCopyBefore a i b j
      to (inl h) = inl h
      to (inr h) = inr (h.0, h.1.0, h.1.1)

      from : IsCopyBefore a i b j → IsWrittenBefore a b ⊎ ((a.w ≡ b.w) × ((a.node ≡ b.node) × (i < j)))
      from (inl h) = inl h
      from (inr h) = inr (h.0, (h.1, h.2))

  module _ (arcs : List Arc) (regs : List (List ℕ)) where
    abbrev pub is_free : (l j register : ℕ) → Test (IsFree period unroll arcs regs l j register)
    is_free l j register =
        like {P = (k : ℕ) → k < length arcs → (i : ℕ) → i < (arc_of arcs k).copies
        → (arc_of arcs k).port ≡ (arc_of arcs l).port → IsCopyBefore (arc_of arcs k) i (arc_of arcs l) j
        → register_of regs k i ≡ register → AreApart period unroll (arc_of arcs k) i (arc_of arcs l) j}
        (λ h k i x. h k x.there i x.copy x.file x.before x.its_register)
        (λ h k there i copy file before same. h k i (record {
          there = there;
          copy = copy;
          file = file;
          before =
              before;
          its_register = same;
        }))
        (below (length arcs) (λ k. below (arc_of arcs k).copies (λ i.
        implies (same_port (arc_of arcs k).port (arc_of arcs l).port) (λ z.
        implies (copy_before (arc_of arcs k) i (arc_of arcs l) j) (λ y.
        implies (eq (register_of regs k i) register) (λ x. are_apart (arc_of arcs k) i (arc_of arcs l) j))))))

    abbrev pub is_first_free : (l j : ℕ) → Test (IsFirstFree period unroll arcs regs l j)
    is_first_free l j =
        like {P = IsFree period unroll arcs regs l j (register_of regs l j) × ((register : ℕ)
        → register < register_of regs l j → IsFree period unroll arcs regs l j register → ⊥)}
        (λ h. record { free = h.0; least = h.1 }) (λ h. (h.free, h.least))
        (both (is_free l j (register_of regs l j)) (below (register_of regs l j)
        (λ register. nay (is_free l j register))))

    abbrev pub is_first_fit : Test (IsFirstFit period unroll arcs regs)
    is_first_fit =
        like {P = (length regs ≡ length arcs) × (((k : ℕ) → k < length arcs
        → length (slice_index_or regs k []) ≡ (arc_of arcs k).copies) × ((k : ℕ) → k < length arcs → (i : ℕ)
        → i < (arc_of arcs k).copies → IsFirstFree period unroll arcs regs k i))}
        (λ h. record { count = h.0; copies = h.1.0; each = λ k i less copy. h.1.1 k less i copy })
        (λ h. (h.count, (h.copies, λ k less i copy. h.each k i less copy)))
        (both (eq (length regs) (length arcs))
        (both (below (length arcs) (λ k. eq (length (slice_index_or regs k [])) (arc_of arcs k).copies))
        (below (length arcs) (λ k. below (arc_of arcs k).copies (λ i. is_first_free k i)))))

abbrev pub has_register : (d : Datapath) (unroll : ℕ) (arcs : List Arc) (regs : List (List ℕ)) (k i : ℕ)
    → Test (HasRegister d unroll arcs regs k i)
has_register d unroll arcs regs k i =
    like {P = IsFirstFree d.period unroll arcs regs k i × (register_of regs k i < file_size d (arc_of arcs k).port)}
    (λ h. record { first = h.0; within = h.1 }) (λ h. (h.first, h.within))
    (both (is_first_free d.period unroll arcs regs k i)
    (lt (register_of regs k i) (file_size d (arc_of arcs k).port)))
