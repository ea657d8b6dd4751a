-- A turn keeps the marking.
use Rattle.std.proofs.Common.{◌≡◌, ◌≢◌, ℕ, ◌+◌, ◌<◌, ◌≤◌, ◌⊎◌, false, List, length, refl}
use Rattle.std.proofs.Common.{inl, inr, arith, ◌∙◌, subst}
use Rattle.std.specs.Prelude.{slice_set}
use Rattle.std.specs.List.{Contains}
use Rattle.std.proofs.lemmas.Bool.{cases_Bool, cases_lt, eq-eqb, ne_eqb}
use Rattle.std.proofs.lemmas.List.{get_or-set_same, get_or-set_other, length-set}
use Rattle.lists.proofs.Numbers.{same_or_not}
use Rattle.net_core.specs.declared.types.Wire.TheVariants.{From}
use Rattle.net_turns.specs.Turns.{NetShape, Point, start, point_of, feed_of, period_of, next, lacks, after_turn}
use Rattle.net_turns.specs.Marking.{IsShape, IsPoint, IsQueue, IsMarking}
use Rattle.net_turns.proofs.Lacking.{has_all}

-- what p has for its next cycle, where it lacks nothing
pub record Runs (shape : NetShape) (points : List Point) (p : ℕ) : Type 0 where
  pub input : (point_of points p).ran < shape.samples
  pub rows : (q j : ℕ) → Contains (feed_of shape p) (From q j) → (point_of points p).ran < (point_of points q).ran
  pub places : (r j : ℕ)
      → r < length shape.feeds
      → Contains (feed_of shape r) (From p j)
      → (point_of points p).ran < (point_of points r).taken + shape.capacity

module _ (shape : NetShape) (points : List Point) (marking : IsMarking shape points) (p : ℕ)
    (within : p < length shape.feeds) where
  pub runs : lacks shape points p ≡ false → Runs shape points p
  runs none =
      let at = marking.each p within in
      elim (cases_lt 0 (point_of points p).cycle) [
        | inl later ↦ record {
          input = at.one_more later;
          rows = λ q j wire. omega (arith, (marking.queues p q j within wire).rows, at.under_way later);
          places = λ r j reader wire. (marking.queues r p j reader wire).kept later;
        }
        | inr first ↦
            let is_first : (point_of points p).cycle ≡ 0 = omega arith in
            let has = has_all shape points p none is_first in
            record {
              input = omega (arith, has.input, at.between is_first);
              rows = λ q j wire. omega (arith, has.rows q j wire, at.between is_first);
              places = has.places;
            }
      ]

-- where processor p may be after a cycle
pub record IsAfter (shape : NetShape) (p : ℕ) (from to : Point) : Type 0 where
  pub at : IsPoint shape p to
  pub taken : to.taken ≡ from.ran + 1
  pub grows : from.ran ≤ to.ran
  pub by_one : to.ran ≤ from.ran + 1
  pub goes_on : 0 < to.cycle → to.ran ≡ from.ran

-- after a cycle a processor has taken one row more than it had run samples
next-taken : (shape : NetShape) (p : ℕ) (point : Point)
    → IsPoint shape p point
    → (next (period_of shape p) point).taken ≡ point.ran + 1
next-taken shape p point at =
    elim (cases_lt 0 point.cycle) [
      | inl later ↦ rw (ne_eqb point.cycle 0 (λ e. omega (arith, later, e))) (at.under_way later)
      | inr first ↦
          let is_first : point.cycle ≡ 0 = omega arith in
          rw (eq-eqb point.cycle 0 is_first) (omega (arith, at.between is_first))
    ]

-- the last cycle of a sample, and another
pub next-ends : (period : ℕ) (point : Point)
    → point.cycle + 1 ≡ period
    → ((next period point).ran ≡ point.ran + 1) × ((next period point).cycle ≡ 0)
next-ends period point h = rw (eq-eqb (point.cycle + 1) period h) (refl, refl)

pub next-goes : (period : ℕ) (point : Point)
    → (point.cycle + 1 ≡ period → ⊥)
    → ((next period point).ran ≡ point.ran) × ((next period point).cycle ≡ point.cycle + 1)
next-goes period point h = rw (ne_eqb (point.cycle + 1) period h) (refl, refl)

is_after-from : (shape : NetShape) (p : ℕ) (from to : Point)
    → IsPoint shape p from
    → from.ran < shape.samples
    → to.taken ≡ from.ran + 1
    → (from.cycle + 1 ≡ period_of shape p) × (to.ran ≡ from.ran + 1) × (to.cycle ≡ 0)
    ⊎ (from.cycle + 1 ≡ period_of shape p → ⊥) × (to.ran ≡ from.ran) × (to.cycle ≡ from.cycle + 1)
    → IsAfter shape p from to
is_after-from shape p from to at more taken (inl (ends, ran, cycle)) = record {
  at = record {
    ran = omega arith;
    cycle = omega (arith, at.cycle);
    between = λ h. omega arith;
    under_way = λ h. absurd (omega arith);
    one_more = λ h. absurd (omega arith);
  };
  taken = taken;
  grows = omega arith;
  by_one = omega arith;
  goes_on = λ h. absurd (omega arith);
}
is_after-from shape p from to at more taken (inr (goes, ran, cycle)) = record {
  at = record {
    ran = omega arith;
    cycle = (let less : from.cycle < period_of shape p = at.cycle in omega arith);
    between = λ h. absurd (omega arith);
    under_way = λ h. omega arith;
    one_more = λ h. omega arith;
  };
  taken = taken;
  grows = omega arith;
  by_one = omega arith;
  goes_on = λ h. ran;
}

pub is_after : (shape : NetShape) (p : ℕ) (point : Point)
    → IsPoint shape p point
    → point.ran < shape.samples
    → IsAfter shape p point (next (period_of shape p) point)
is_after shape p point at more =
    is_after-from shape p point (next (period_of shape p) point) at more (next-taken shape p point at)
    (elim (same_or_not (point.cycle + 1) (period_of shape p)) [
      | inl ends ↦
          (let is = next-ends (period_of shape p) point ends in inl (ends, is.0, is.1))
      | inr goes ↦
          (let is = next-goes (period_of shape p) point goes in inr (goes, is.0, is.1))
    ])

module _ (shape : NetShape) (sound : IsShape shape) (points : List Point) (marking : IsMarking shape points) (p : ℕ)
    (within : p < length shape.feeds) (has : Runs shape points p) (to : Point)
    (after : IsAfter shape p (point_of points p) to) where
  here : point_of (slice_set points p to) p ≡ to
  here = get_or-set_same points p to start (omega (arith, marking.count))

  other : (r : ℕ) → r ≢ p → point_of (slice_set points p to) r ≡ point_of points r
  other r apart = get_or-set_other points p r to start apart

  each_kept : (r : ℕ) → r < length shape.feeds → IsPoint shape r (point_of (slice_set points p to) r)
  each_kept r inside =
      elim (same_or_not r p) [
        | inl same ↦ rw (same, here) after.at
        | inr apart ↦ rw (other r apart) (marking.each r inside)
      ]

  -- p took a row of the queue from q
  queue_to : (q j : ℕ) → Contains (feed_of shape p) (From q j) → IsQueue shape (point_of points q) to
  queue_to q j wire =
      let old = marking.queues p q j within wire in
      let at = marking.each p within in
      let taken_le : (point_of points p).taken ≤ (point_of points p).ran + 1 =
      elim (cases_lt 0 (point_of points p).cycle) [
        | inl later ↦ omega (arith, at.under_way later)
        | inr first ↦ omega (arith, at.between (omega arith))
      ] in
      record {
        rows = omega (arith, has.rows q j wire, after.taken);
        places = omega (arith, old.places, after.taken, taken_le);
        kept = λ h. omega (arith, old.kept h, after.taken, taken_le);
      }

  -- p put a row into its queue to r, or it goes on
  queue_from : (r j : ℕ)
      → r < length shape.feeds
      → Contains (feed_of shape r) (From p j)
      → IsQueue shape to (point_of points r)
  queue_from r j inside wire =
      let old = marking.queues r p j inside wire in
      let free = has.places r j inside wire in
      record {
        rows = omega (arith, old.rows, after.grows);
        places = omega (arith, free, after.by_one);
        kept = λ h. omega (arith, free, after.goes_on h);
      }

  queues_kept : (r q j : ℕ)
      → r < length shape.feeds
      → Contains (feed_of shape r) (From q j)
      → IsQueue shape (point_of (slice_set points p to) q) (point_of (slice_set points p to) r)
  queues_kept r q j inside wire =
      elim (same_or_not r p) [
        | inl is_p ↦
            let from_p : Contains (feed_of shape p) (From q j) =
            subst (λ (s : ℕ). Contains (feed_of shape s) (From q j)) is_p wire in
            rw (is_p, here, other q (λ same. absurd (omega (arith, sound.wires p q j within from_p, same))))
            (queue_to q j from_p)
        | inr apart ↦
            elim (same_or_not q p) [
              | inl is_p ↦
                  let to_r : Contains (feed_of shape r) (From p j) =
                  subst (λ (s : ℕ). Contains (feed_of shape r) (From s j)) is_p wire in
                  rw (is_p, here, other r apart) (queue_from r j inside to_r)
              | inr q_apart ↦ rw (other r apart, other q q_apart) (marking.queues r q j inside wire)
            ]
      ]

  pub set_keeps : IsMarking shape (slice_set points p to)
  set_keeps = record {
    count = length-set points p to ∙ marking.count;
    each = each_kept;
    queues = queues_kept;
  }

module _ (shape : NetShape) (sound : IsShape shape) where
  pub turn_keeps : (points : List Point) (p : ℕ)
      → IsMarking shape points
      → p < length shape.feeds
      → IsMarking shape (after_turn shape points p)
  unfolding after_turn
  turn_keeps points p marking within =
      elim (cases_Bool (lacks shape points p)) [
        | inl none ↦ rw none marking
        | inr all ↦
            let has = runs shape points marking p within all in
            rw all (set_keeps shape sound points marking p within has (next (period_of shape p) (point_of points p))
            (is_after shape p (point_of points p) (marking.each p within) has.input))
      ]
