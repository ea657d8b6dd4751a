-- Turns of one processor for all cycles of a sample, and lists of turns one after the other.
use Rattle.std.proofs.Common.{append_assoc, sym, ◌≡◌, ℕ, zero, suc, ◌+◌, ◌<◌, ◌==◌, Bool, true, false, not, ◌||◌, List}
use Rattle.std.proofs.Common.{[], ◌∷◌, ◌++◌, length}
use Rattle.std.proofs.Common.{replicate, refl, ap, ◌∙◌, arith}
use Rattle.std.specs.Prelude.{slice_set}
use Rattle.std.specs.List.{All}
use Rattle.std.proofs.lemmas.Bool.Decides.{nat_tests}
use Rattle.std.proofs.lemmas.List.{length-set, get_or-set_same, set-set, append-nil}
use Rattle.net_turns.specs.Turns.{NetShape, Point, start, point_of, period_of, next, lacks, after_turn, after_turns}
use Rattle.net_turns.specs.Turns.{some_runs}
use Rattle.net_turns.proofs.Moves.{turn-lacks}
use Rattle.net_turns.proofs.Turns.{or_assoc}
use Rattle.proc_net.specs.Nets.{sample_turns, turns_of_samples}

-- the same number in all places
pub all_same_number : (P : ℕ → Type 0) (n p : ℕ) → P p → All P (replicate n p)
all_same_number P zero p is zero d h = absurd (omega arith)
all_same_number P zero p is (suc k) d h = absurd (omega arith)
all_same_number P (suc n) p is zero d h = is
all_same_number P (suc n) p is (suc k) d h = all_same_number P n p is k d (omega arith)

-- where a processor is after a cycle of a sample, the first one or another, the last one or another
next_only : (period : ℕ) (point : Point)
    → point.cycle ≡ 0
    → 1 ≡ period
    → next period point ≡ record { taken = point.taken + 1; ran = point.ran + 1; cycle = 0 }
next_only period point first last =
    let starts : (point.cycle == 0) ≡ true = grind (arith, nat_tests) in
    let ends : (point.cycle + 1 == period) ≡ true = grind (arith, nat_tests) in
    rw (starts, ends) refl

next_first : (period : ℕ) (point : Point)
    → point.cycle ≡ 0
    → 1 < period
    → next period point ≡ record { taken = point.taken + 1; ran = point.ran; cycle = 1 }
next_first period point first more =
    let starts : (point.cycle == 0) ≡ true = grind (arith, nat_tests) in
    let goes : (point.cycle + 1 == period) ≡ false = grind (arith, nat_tests) in
    rw (starts, goes) (ap (λ (n : ℕ). record { taken = point.taken + 1; ran = point.ran; cycle = n + 1 }) first)

next_within : (period : ℕ) (point : Point)
    → 0 < point.cycle
    → point.cycle + 1 < period
    → next period point ≡ record { taken = point.taken; ran = point.ran; cycle = point.cycle + 1 }
next_within period point later more =
    let started : (point.cycle == 0) ≡ false = grind (arith, nat_tests) in
    let goes : (point.cycle + 1 == period) ≡ false = grind (arith, nat_tests) in
    rw (started, goes) refl

next_last : (period : ℕ) (point : Point)
    → 0 < point.cycle
    → point.cycle + 1 ≡ period
    → next period point ≡ record { taken = point.taken; ran = point.ran + 1; cycle = 0 }
next_last period point later last =
    let started : (point.cycle == 0) ≡ false = grind (arith, nat_tests) in
    let ends : (point.cycle + 1 == period) ≡ true = grind (arith, nat_tests) in
    rw (started, ends) refl

module _ (shape : NetShape) (p : ℕ) where
  lacks_none : (points : List Point) → 0 < (point_of points p).cycle → lacks shape points p ≡ false
  unfolding lacks
  lacks_none points later =
      let started : ((point_of points p).cycle == 0) ≡ false = grind (arith, nat_tests) in rw started refl

  turn_runs : (points : List Point) (to : Point)
      → lacks shape points p ≡ false
      → next (period_of shape p) (point_of points p) ≡ to
      → after_turn shape points p ≡ slice_set points p to
  unfolding after_turn
  turn_runs points to all is = rw all (ap (λ (x : Point). slice_set points p x) is)

  -- the turns for the cycles that are left of a sample
  turns_left : (n : ℕ) (points : List Point) (point : Point)
      → p < length points
      → point_of points p ≡ point
      → 0 < point.cycle
      → point.cycle + (n + 1) ≡ period_of shape p
      → after_turns shape points (replicate (suc n) p)
      ≡ slice_set points p (record { taken = point.taken; ran = point.ran + 1; cycle = 0 })
  turns_left zero points point inside at later left =
      turn_runs points _ (lacks_none points (rw at later))
      (rw at (next_last (period_of shape p) point later (omega arith)))
  turns_left (suc n) points point inside at later left =
      let mid : Point = record { taken = point.taken; ran = point.ran; cycle = point.cycle + 1 } in
      ap (λ (qs : List Point). after_turns shape qs (replicate (suc n) p))
      (turn_runs points mid (lacks_none points (rw at later))
      (rw at (next_within (period_of shape p) point later (omega arith))))
      ∙ turns_left n (slice_set points p mid) mid (omega (arith, inside, length-set points p mid))
      (get_or-set_same points p mid start inside) (omega arith) (omega arith)
      ∙ set-set points p mid (record { taken = point.taken; ran = point.ran + 1; cycle = 0 })

  module _ (points : List Point) (point : Point) (inside : p < length points) (at : point_of points p ≡ point)
      (first : point.cycle ≡ 0) (all : lacks shape points p ≡ false) where
    turns_by : (n : ℕ)
        → n + 1 ≡ period_of shape p
        → after_turns shape points (replicate (suc n) p)
        ≡ slice_set points p (record { taken = point.taken + 1; ran = point.ran + 1; cycle = 0 })
    turns_by zero one = turn_runs points _ all (rw at (next_only (period_of shape p) point first (omega arith)))
    turns_by (suc n) more =
        let mid : Point = record { taken = point.taken + 1; ran = point.ran; cycle = 1 } in
        ap (λ (qs : List Point). after_turns shape qs (replicate (suc n) p))
        (turn_runs points mid all (rw at (next_first (period_of shape p) point first (omega arith))))
        ∙ turns_left n (slice_set points p mid) mid (omega (arith, inside, length-set points p mid))
        (get_or-set_same points p mid start inside) (omega arith) (omega arith)
        ∙ set-set points p mid (record { taken = point.taken + 1; ran = point.ran + 1; cycle = 0 })

    -- as many turns as a sample has cycles run it
    pub turns_of_sample : (n : ℕ)
        → n ≡ period_of shape p
        → 0 < n
        → after_turns shape points (replicate n p)
        ≡ slice_set points p (record { taken = point.taken + 1; ran = point.ran + 1; cycle = 0 })
    turns_of_sample zero same some = absurd (omega arith)
    turns_of_sample (suc n) same some = turns_by n (omega arith)

    pub sample_runs : (n : ℕ) → 0 < n → true ≡ some_runs shape points (replicate n p)
    sample_runs zero some = absurd (omega arith)
    sample_runs (suc n) some = rw all refl

-- turns after turns
pub turns_after : (shape : NetShape) (points : List Point) (ps qs : List ℕ)
    → after_turns shape points (ps ++ qs) ≡ after_turns shape (after_turns shape points ps) qs
turns_after shape points [] qs = refl
turns_after shape points (p ∷ ps) qs = turns_after shape (after_turn shape points p) ps qs

pub runs_after : (shape : NetShape) (points : List Point) (ps qs : List ℕ)
    → some_runs shape points (ps ++ qs)
    ≡ (some_runs shape points ps || some_runs shape (after_turns shape points ps) qs)
runs_after shape points [] qs = refl
runs_after shape points (p ∷ ps) qs =
    ap (λ (b : Bool). not (lacks shape points p) || b) (runs_after shape (after_turn shape points p) ps qs)
    ∙ or_assoc (not (lacks shape points p)) (some_runs shape (after_turn shape points p) ps) _

-- where it lacks something, none of its turns changes anything or runs
pub turns_lacking : (shape : NetShape) (points : List Point) (p n : ℕ)
    → lacks shape points p ≡ true
    → (after_turns shape points (replicate n p) ≡ points) × (some_runs shape points (replicate n p) ≡ false)
turns_lacking shape points p zero none = (refl, refl)
turns_lacking shape points p (suc n) none =
    let here = turn-lacks shape points p none in
    let later = turns_lacking shape points p n none in (
      ap (λ (qs : List Point). after_turns shape qs (replicate n p)) here ∙ later.0,
      rw none (ap (λ (qs : List Point). some_runs shape qs (replicate n p)) here ∙ later.1),
    )

-- the turns of a sample, by whether its first cycle comes
pub turns_first : (shape : NetShape) (points : List Point) (p : ℕ)
    → (point_of points p).cycle ≡ 0
    → sample_turns shape points p ≡ replicate (period_of shape p) p
turns_first shape points p first =
    let starts : ((point_of points p).cycle == 0) ≡ true = grind (arith, nat_tests) in rw starts refl

pub turns_later : (shape : NetShape) (points : List Point) (p : ℕ)
    → 0 < (point_of points p).cycle
    → sample_turns shape points p ≡ []
turns_later shape points p later =
    let started : ((point_of points p).cycle == 0) ≡ false = grind (arith, nat_tests) in rw started refl

-- those of one processor more
pub turns_push : (shape : NetShape) (points : List Point) (ps : List ℕ) (p : ℕ)
    → turns_of_samples shape points (ps ++ p ∷ [])
    ≡ turns_of_samples shape points ps
    ++ sample_turns shape (after_turns shape points (turns_of_samples shape points ps)) p
turns_push shape points [] p = append-nil (sample_turns shape points p)
turns_push shape points (q ∷ ps) p =
    let first = sample_turns shape points q in
    let rest = turns_of_samples shape (after_turns shape points first) ps in
    ap (λ (l : List ℕ). first ++ l) (turns_push shape (after_turns shape points first) ps p)
    ∙ sym (append_assoc first rest
    (sample_turns shape (after_turns shape (after_turns shape points first) rest) p))
    ∙ ap (λ (qs : List Point). (first ++ rest) ++ sample_turns shape qs p) (sym (turns_after shape points first rest))
