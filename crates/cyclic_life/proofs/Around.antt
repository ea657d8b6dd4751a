-- Lifetimes around the period.
use Rattle.std.proofs.Common.{◌≡◌, ◌∙◌, sym, ap, refl, subst, arith, ℕ, ◌+◌, ◌-◌, ◌*◌, ◌%◌, ◌<◌, ◌≤◌, ⊎_elim, List}
use Rattle.std.proofs.Common.{length, get_or, get_or-set_same, get_or-set_other}
use Rattle.std.specs.Prelude.{slice_index_or, slice_set, All, Contains}
use Rattle.std.proofs.lemmas.Bool.{cases_eq, cases_lt}
use Rattle.std.proofs.lemmas.List.{length-set, get_or_default}
use Rattle.std.proofs.Math.Nat.{mod-lt, mul-le-mul_right}
use Rattle.datapath.specs.Allowed.{IsDatapath}
use Rattle.datapath.specs.declared.types.Datapath.{Datapath}
use Rattle.signal_graph.specs.declared.graph.Edge.{Edge}
use Rattle.plan_core.specs.Operands.{delay_at, Reads}
use Rattle.plan_core.specs.Assigned.{unit_in}
use Rattle.plan_core.specs.ListSchedule.{ends}
use Rattle.plan_core.specs.Arcs.{read_cycle}
use Rattle.plan_core.specs.Stages.{written_around, read_around}
use Rattle.plan_core.specs.declared.schedule.Assigned.{Assigned}
use Rattle.plan_core.specs.declared.schedule.Schedule.{Schedule}
use Rattle.plan_core.proofs.OneHeight.{live_of}
use Rattle.plan_core.proofs.Readers.{reader_there, edge_has}
use Rattle.cyclic_life.specs.Held.{IsHeld, AreReadNow, IsOverStages}
use Rattle.cyclic_life.specs.Private.Reads.{no_read, around_of}
use Rattle.cyclic_life.specs.Private.Placed.{IsPlacement, IsReadOver, IsRead, AreReads, AreReadsAround, AreAroundUpTo}
use Rattle.cyclic_life.specs.Private.Placed.{AreReadLater, read_of}
use Rattle.cyclic_life.specs.declared.read.Read.{Read}
use Rattle.cyclic_life.proofs.ArcsOfReads.{in_period_around, in_samples_around}
use Rattle.cyclic_life.proofs.Placements.{stage_placement}

module _ (d : Datapath) (a : Assigned) (s : Schedule) where
  -- Reads that are put around the period one after another.

  pub none_around : (reads : List Read) → AreAroundUpTo d a s 0 reads reads
  none_around reads = record {
    count = refl;
    done = λ i x less. absurd (omega (arith, less));
    left = λ i x le. refl;
  }

  pub one_around : (k : ℕ) (reads before after : List Read) (x : Read)
      → k < length reads
      → AreAroundUpTo d a s k reads before
      → x ≡ around_of d.period (slice_index_or before k x)
      → after ≡ slice_set before k x
      → AreAroundUpTo d a s (k + 1) reads after
  one_around k reads before after x there so_far is set = record {
    count = ap length set ∙ length-set before k x ∙ so_far.count;
    done = λ i y less.
        ap (λ (xs : List Read). slice_index_or xs i y) set
        ∙ ⊎_elim
        (λ (same : i ≡ k).
        ap (λ (j : ℕ). slice_index_or (slice_set before k x) j y) same
        ∙ get_or-set_same before k x y (omega (arith, there, so_far.count))
        ∙ is
        ∙ ap (around_of d.period) (so_far.left k x (omega arith) ∙ get_or_default reads k x y there)
        ∙ ap (λ (j : ℕ). around_of d.period (slice_index_or reads j y)) (sym same))
        (λ other. get_or-set_other before k i x y other ∙ so_far.done i y (omega (arith, less, other)))
        (cases_eq i k);
    left = λ i y le.
        ap (λ (xs : List Read). slice_index_or xs i y) set
        ∙ get_or-set_other before k i x y (λ (same : i ≡ k). omega (arith, le, same))
        ∙ so_far.left i y (omega (arith, le));
  }

  -- a read is no earlier than its word, so it is one around the period
  pub later_of : (reads : List Read)
      → AreReads d a s reads
      → AreReadLater d a s
      → (k : ℕ) (x : Read)
      → k < length reads
      → (slice_index_or reads k x).w ≤ (slice_index_or reads k x).r
  later_of reads are later k x there =
      let is = are.each k x there in
      let after = later is.c (slice_index_or reads k x).port (slice_index_or reads k x).node is.reads in
      omega (arith, is.written, is.cycle, after)

  around_is : (x : Read)
      → IsRead d a s x
      → IsReadOver (written_around d a s) (read_around d a s) a (around_of d.period x)
  around_is x is = record {
    c = is.c;
    reads = is.reads;
    unit = is.unit;
    written = ap (λ (n : ℕ). n % d.period) is.written;
    cycle = ap (λ (n : ℕ). n % d.period + (x.r - n)) is.written
        ∙ ap (λ (n : ℕ). ends d a s x.node % d.period + (n - ends d a s x.node)) is.cycle;
  }

  pub all_around : (reads new : List Read) (k : ℕ)
      → length reads ≤ k
      → AreAroundUpTo d a s k reads new
      → AreReads d a s reads
      → AreReadsAround d a s new
  all_around reads new k all around are = record {
    each = λ i x there.
        let in_reads : i < length reads = omega (arith, there, around.count) in
        subst (IsReadOver (written_around d a s) (read_around d a s) a)
        (sym (around.done i x (omega (arith, in_reads, all))))
        (around_is (slice_index_or reads i x) (are.each i x in_reads));
    every = λ c q v reads_v.
        let at = are.every c q v reads_v in
        let i : ℕ = at.0 in (
          i,
          omega (arith, at.1, around.count),
          around.done i _ (omega (arith, at.1, all))
              ∙ ap (around_of d.period) (get_or_default reads i _ (read_of d a s c q v) at.1 ∙ at.2),
        );
  }

-- A schedule over several stages.
module _ (d : Datapath) (a : Assigned) (s : Schedule) (is : IsDatapath d) (held : IsHeld d a) where
  pub over_stages : IsOverStages d a s → IsPlacement d a s
  over_stages over = stage_placement d a s is held over

  module _ (now : AreReadNow a) (over : IsOverStages d a s) where
    none : (c q v : ℕ) → Reads a.lowered.nodes c q v → delay_at a.lowered.nodes c q ≡ 0
    none c q v reads = edge_has (λ (edge : Edge). edge.delay ≡ 0) a.lowered.nodes now c q v reads

    pub read_later : AreReadLater d a s
    read_later c q v reads =
        let ready = over.operands c (reader_there a.lowered.nodes c q v reads) q v
        (record { reads = reads; now = none c q v reads }) in
        let at = none c q v reads in
        let some = live_of d is (unit_in a.units v) in
        omega (arith, ready, some)

    pub in_period : (x : Read) → IsReadOver (written_around d a s) (read_around d a s) a x → x.w < 4096
    in_period =
        in_period_around d a s (over_stages over) over.stages over.few (omega (arith, is.period.0)) over.ends none

    pub in_samples : (x : Read)
        → IsReadOver (written_around d a s) (read_around d a s) a x
        → x.r ≤ x.w + 4 * d.period
    in_samples =
        in_samples_around d a s (over_stages over) over.stages over.few (omega (arith, is.period.0)) over.ends none
