-- Each round before all samples are run adds to the cycles that were run, and these have a bound: so many rounds
-- run all.
use Rattle.std.proofs.Common.{◌≡◌, ℕ, zero, suc, ◌+◌, ◌*◌, ◌<◌, ◌≤◌, ◌⊎◌, true, false, List, [], ◌∷◌}
use Rattle.std.proofs.Common.{mul-le-mul_left, mul-le-mul_right, length, get_or, refl, ap, ap₂, inl, inr, arith, sym}
use Rattle.std.proofs.Common.{◌∙◌, subst}
use Rattle.std.specs.List.{All}
use Rattle.std.proofs.Math.ListN.{set}
use Rattle.std.proofs.lemmas.Bool.{cases_Bool, cases_lt}
use Rattle.std.proofs.lemmas.List.{length-map, get_or-map}
use Rattle.std.proofs.lemmas.List.FromFn.{length-range_with_len, get_or-range_with_len}
use Rattle.lists.proofs.Numbers.{same_or_not}
use Rattle.net_turns.specs.Turns.{NetShape, Point, start, point_of, period_of, next, processors, lacks, after_turn}
use Rattle.net_turns.specs.Turns.{after_turns, after_round, some_runs, is_finished}
use Rattle.net_turns.specs.Progress.{cycles_by, cycles_run, greatest, enough_rounds, after_rounds}
use Rattle.net_turns.specs.Marking.{IsShape, IsMarking, starts}
use Rattle.net_turns.proofs.Kept.{next-ends, next-goes, turn_keeps}
use Rattle.net_turns.proofs.Moves.{turn-lacks, moves, finished_lacks}

-- how many cycles a processor has run
abbrev pub at_point : ℕ → Point → ℕ
at_point period point = point.ran * period + point.cycle

-- one more cycle
pub next_adds : (period : ℕ) (point : Point) → at_point period (next period point) ≡ at_point period point + 1
next_adds period point =
    elim (same_or_not (point.cycle + 1) period) [
      | inl ends ↦
          let is = next-ends period point ends in
          ap₂ (λ (r c : ℕ). r * period + c) is.0 is.1 ∙ omega (arith, ends)
      | inr goes ↦
          let is = next-goes period point goes in
          ap₂ (λ (r c : ℕ). r * period + c) is.0 is.1 ∙ omega arith
    ]

-- where one processor runs another number of cycles
pub cycles-set : (periods : List ℕ) (points : List Point) (p : ℕ) (to : Point)
    → p < length periods
    → p < length points
    → cycles_by periods (set points p to) + at_point (get_or periods p 1) (get_or points p start)
    ≡ cycles_by periods points + at_point (get_or periods p 1) to
cycles-set [] points p to h k = absurd (omega arith)
cycles-set (n ∷ periods) [] p to h k = absurd (omega arith)
cycles-set (n ∷ periods) (point ∷ points) zero to h k = omega arith
cycles-set (n ∷ periods) (point ∷ points) (suc p) to h k =
    omega (arith, cycles-set periods points p to (omega arith) (omega arith))

pub cycles-le : (m : ℕ) (periods : List ℕ) (points : List Point)
    → ((p : ℕ) → p < length periods → at_point (get_or periods p 1) (get_or points p start) ≤ m)
    → cycles_by periods points ≤ length periods * m
cycles-le m [] points each = omega arith
cycles-le m (n ∷ periods) [] each = omega arith
cycles-le m (n ∷ periods) (point ∷ points) each =
    omega (arith, each 0 (omega arith), cycles-le m periods points (λ p h. each (suc p) (omega arith)))

pub le-greatest : (ns : List ℕ) (k : ℕ) → k < length ns → get_or ns k 1 ≤ greatest ns
le-greatest [] k h = absurd (omega arith)
le-greatest (n ∷ ns) zero h = omega arith
le-greatest (n ∷ ns) (suc k) h = omega (arith, le-greatest ns k (omega arith))

-- a processor has run no more cycles than all its samples have
point-le : (samples period most : ℕ) (point : Point)
    → point.ran ≤ samples
    → point.cycle < period
    → (0 < point.cycle → point.ran < samples)
    → period ≤ most
    → at_point period point ≤ samples * most
point-le samples period most point ran cycle under_way le =
    let all : samples * period ≤ samples * most = mul-le-mul_left samples le in
    elim (cases_lt 0 point.cycle) [
      | inl later ↦
          let more : (point.ran + 1) * period ≤ samples * period =
          mul-le-mul_right period (omega (arith, under_way later)) in
          omega (arith, more, all, cycle)
      | inr first ↦
          let more : point.ran * period ≤ samples * period = mul-le-mul_right period ran in
          omega (arith, more, all, first)
    ]

module _ (shape : NetShape) (sound : IsShape shape) where
  pub cycles_bound : (points : List Point) → IsMarking shape points → cycles_run shape points ≤ enough_rounds shape
  cycles_bound points marking =
      let bound : cycles_by shape.periods points ≤ length shape.periods * (shape.samples * greatest shape.periods) =
      cycles-le (shape.samples * greatest shape.periods) shape.periods points (λ p h.
      let at = marking.each p (omega (arith, h, sound.periods)) in
      point-le shape.samples (period_of shape p) (greatest shape.periods) (point_of points p) at.ran at.cycle
      at.one_more (le-greatest shape.periods p h)) in
      subst (λ (n : ℕ). cycles_by shape.periods points ≤ n * (shape.samples * greatest shape.periods)) sound.periods
      bound

  -- a turn that runs adds a cycle
  pub turn_adds : (points : List Point) (p : ℕ)
      → IsMarking shape points
      → p < length shape.feeds
      → lacks shape points p ≡ false
      → cycles_run shape (after_turn shape points p) ≡ cycles_run shape points + 1
  unfolding after_turn
  turn_adds points p marking within all =
      let changed = cycles-set shape.periods points p (next (period_of shape p) (point_of points p))
      (omega (arith, within, sound.periods)) (omega (arith, within, marking.count)) in
      rw all (omega (arith, changed, next_adds (period_of shape p) (point_of points p)))

  -- turns take none away, and where one of them runs they add some
  pub turns_add : (points : List Point) (ps : List ℕ)
      → IsMarking shape points
      → All (λ p. p < length shape.feeds) ps
      → (cycles_run shape points ≤ cycles_run shape (after_turns shape points ps))
      × (some_runs shape points ps ≡ true
      → cycles_run shape points < cycles_run shape (after_turns shape points ps))
  turns_add points [] marking within = (omega arith, λ h. absurd (cc))
  turns_add points (p ∷ ps) marking within =
      let here : p < length shape.feeds = within 0 p (omega arith) in
      let later = turns_add (after_turn shape points p) ps (turn_keeps shape sound points p marking here)
      (λ k d h. within (suc k) d (omega arith)) in
      elim (cases_Bool (lacks shape points p)) [
        | inl none ↦
            let same = turn-lacks shape points p none in
            let grows : cycles_run shape points ≤ cycles_run shape (after_turns shape (after_turn shape points p) ps) =
            omega (arith, later.0, ap (cycles_run shape) same) in
            (grows, λ h. omega (arith, later.1 (rw none at h), ap (cycles_run shape) same))
        | inr all ↦
            let adds = turn_adds points p marking here all in
            (omega (arith, later.0, adds), λ h. omega (arith, later.0, adds))
      ]

  pub turns_keep : (points : List Point) (ps : List ℕ)
      → IsMarking shape points
      → All (λ p. p < length shape.feeds) ps
      → IsMarking shape (after_turns shape points ps)
  turns_keep points [] marking within = marking
  turns_keep points (p ∷ ps) marking within =
      turns_keep (after_turn shape points p) ps (turn_keeps shape sound points p marking (within 0 p (omega arith)))
      (λ k d h. within (suc k) d (omega arith))

  pub all_within : All (λ p. p < length shape.feeds) (processors shape)
  all_within k d h =
      let inside : k < length shape.feeds = omega (arith, length-range_with_len 0 (length shape.feeds)) in
      rw (get_or-range_with_len 0 (length shape.feeds) k d inside) (omega (arith, inside))

  pub round_keeps : (points : List Point) → IsMarking shape points → IsMarking shape (after_round shape points)
  round_keeps points marking = turns_keep points (processors shape) marking all_within

  -- a round before all samples are run adds to the cycles
  pub round_adds : (points : List Point)
      → IsMarking shape points
      → is_finished shape points ≡ false
      → cycles_run shape points < cycles_run shape (after_round shape points)
  round_adds points marking unfinished =
      (turns_add points (processors shape) marking all_within).1 (moves shape sound points marking unfinished)

  none_change : (points : List Point) (ps : List ℕ)
      → All (λ p. lacks shape points p ≡ true) ps
      → after_turns shape points ps ≡ points
  none_change points [] none = refl
  none_change points (p ∷ ps) none =
      let same = turn-lacks shape points p (none 0 p (omega arith)) in
      ap (λ (qs : List Point). after_turns shape qs ps) same
      ∙ none_change points ps (λ k d h. none (suc k) d (omega arith))

  -- a round after it changes nothing
  pub round_stays : (points : List Point)
      → IsMarking shape points
      → is_finished shape points ≡ true
      → after_round shape points ≡ points
  round_stays points marking done =
      none_change points (processors shape)
      (λ k d h. finished_lacks shape sound points marking done (get_or (processors shape) k d) (all_within k d h))

  none_run : (points : List Point) (ps : List ℕ)
      → All (λ p. lacks shape points p ≡ true) ps
      → some_runs shape points ps ≡ false
  none_run points [] none = refl
  none_run points (p ∷ ps) none =
      let here : lacks shape points p ≡ true = none 0 p (omega arith) in
      rw here
      (subst (λ (qs : List Point). some_runs shape qs ps ≡ false) (sym (turn-lacks shape points p here))
      (none_run points ps (λ k d h. none (suc k) d (omega arith))))

  -- and runs no cycle
  pub round_runs_none : (points : List Point)
      → IsMarking shape points
      → is_finished shape points ≡ true
      → some_runs shape points (processors shape) ≡ false
  round_runs_none points marking done =
      none_run points (processors shape)
      (λ k d h. finished_lacks shape sound points marking done (get_or (processors shape) k d) (all_within k d h))

  pub rounds_stay : (n : ℕ) (points : List Point)
      → IsMarking shape points
      → is_finished shape points ≡ true
      → is_finished shape (after_rounds shape n points) ≡ true
  rounds_stay zero points marking done = done
  rounds_stay (suc n) points marking done =
      subst (λ (qs : List Point). is_finished shape (after_rounds shape n qs) ≡ true)
      (sym (round_stays points marking done)) (rounds_stay n points marking done)

  -- after so many rounds all samples are run, or as many cycles
  pub rounds_add : (n : ℕ) (points : List Point)
      → IsMarking shape points
      → (is_finished shape (after_rounds shape n points) ≡ true)
      ⊎ (cycles_run shape points + n ≤ cycles_run shape (after_rounds shape n points))
  rounds_add zero points marking = inr (omega arith)
  rounds_add (suc n) points marking =
      elim (cases_Bool (is_finished shape points)) [
        | inl done ↦ inl (rounds_stay (suc n) points marking done)
        | inr unfinished ↦
            elim (rounds_add n (after_round shape points) (round_keeps points marking)) [
              | inl done ↦ inl done
              | inr more ↦ inr (omega (arith, more, round_adds points marking unfinished))
            ]
      ]

  pub rounds_keep : (n : ℕ) (points : List Point)
      → IsMarking shape points
      → IsMarking shape (after_rounds shape n points)
  rounds_keep zero points marking = marking
  rounds_keep (suc n) points marking = rounds_keep n (after_round shape points) (round_keeps points marking)

  one_more : (n : ℕ) (points : List Point)
      → after_round shape (after_rounds shape n points) ≡ after_rounds shape (suc n) points
  one_more zero points = refl
  one_more (suc n) points = one_more n (after_round shape points)

  -- so many rounds run all samples
  pub enough : (points : List Point)
      → IsMarking shape points
      → is_finished shape (after_rounds shape (enough_rounds shape) points) ≡ true
  enough points marking = by (rounds_add (enough_rounds shape) points marking)
    where
      by :
          (is_finished shape (after_rounds shape (enough_rounds shape) points) ≡ true)
          ⊎ (cycles_run shape points + enough_rounds shape
          ≤ cycles_run shape (after_rounds shape (enough_rounds shape) points))
          → is_finished shape (after_rounds shape (enough_rounds shape) points) ≡ true
      by (inl done) = done
      by (inr more) =
          elim (cases_Bool (is_finished shape (after_rounds shape (enough_rounds shape) points))) [
            | inl done ↦ done
            | inr unfinished ↦
                let end = after_rounds shape (enough_rounds shape) points in
                let marked = rounds_keep (enough_rounds shape) points marking in
                absurd (omega (
                  arith,
                  more,
                  round_adds end marked unfinished,
                  cycles_bound (after_round shape end) (round_keeps end marked),
                ))
          ]

  -- before any turn
  pub starts_marked : IsMarking shape (starts shape)
  starts_marked = record {
    count = length-map shape.feeds (λ feed. start);
    each = λ p h. rw (at_start p h) (record {
      ran = omega arith;
      cycle = sound.some p h;
      between = λ at_first. refl;
      under_way = λ later. absurd (omega arith);
      one_more = λ later. absurd (omega arith);
    });
    queues = λ p q j h wire.
        rw (at_start p h, at_start q (omega (arith, h, sound.wires p q j h wire))) (record {
          rows = omega arith;
          places = omega arith;
          kept = λ later. absurd (omega arith);
        });
  }
    where
      at_start : (p : ℕ) → p < length shape.feeds → point_of (starts shape) p ≡ start
      at_start p h = get_or-map (λ feed. start) shape.feeds p [] start h

  -- all samples of a net are run after as many rounds as processors times samples times the greatest period
  pub all_stand : is_finished shape (after_rounds shape (enough_rounds shape) (starts shape)) ≡ true
  all_stand = enough (starts shape) starts_marked
