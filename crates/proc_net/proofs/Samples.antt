-- What the samples of some processors have done so far, and those of all.
use Rattle.std.proofs.Common.{◌≡◌, ℕ, ◌<◌, ◌≤◌, Bool, true, false, ◌||◌, List, [], ◌++◌, length, refl, ap, sym, ◌∙◌}
use Rattle.std.proofs.Common.{subst}
use Rattle.std.proofs.Common.{arith, ◌+◌}
use Rattle.std.specs.List.{All, range_with_len}
use Rattle.std.proofs.lemmas.List.Elements.{All-append}
use Rattle.std.proofs.lemmas.Bool.{or_parts}
use Rattle.lists.specs.Rows.{Rows}
use Rattle.net_turns.specs.Progress.{cycles_run, enough_rounds}
use Rattle.net_turns.specs.Turns.{Point, point_of, period_of, lacks, after_turns, some_runs}
use Rattle.net_turns.proofs.Rounds.{cycles_bound, turns_add, turns_keep}
use Rattle.net_solution.specs.Solutions.{Parts, shape_of, IsNetSolution}
use Rattle.proc_net.specs.Nets.{NetState, parts_of, points_of, sample_turns, turns_of_samples, all_samples, IsNetAt}
use Rattle.proc_net.specs.Private.States.{IsState, TookTurns}
use Rattle.proc_net.proofs.SampleTurns.{all_same_number, turns_after, runs_after, turns_lacking, turns_first}
use Rattle.proc_net.proofs.SampleTurns.{turns_later}
use Rattle.proc_net.proofs.SampleTurns.{turns_push}
use Rattle.proc_net.proofs.Standing.{feeds_length, at_solution}
use Rattle.proc_net.proofs.Rounding.{numbers_more}

pub none_took : (net : NetState) → TookTurns net net [] false
none_took net =
    record { parts = refl; within = λ k d h. absurd (omega arith); points = refl; some = refl }

-- further turns after some
pub took_more : (old mid new : NetState) (ps qs : List ℕ) (some more : Bool)
    → TookTurns old mid ps some
    → TookTurns mid new qs more
    → TookTurns old new (ps ++ qs) (some || more)
took_more old mid new ps qs some more first then = record {
  parts = then.parts ∙ first.parts;
  within = All-append (λ p. p < length (shape_of (parts_of old)).feeds) ps qs first.within
      (subst (λ (given : Parts). All (λ p. p < length (shape_of given).feeds) qs) first.parts then.within);
  points = then.points
      ∙ ap (λ (given : Parts). after_turns (shape_of given) (points_of mid) qs) first.parts
      ∙ ap (λ (points : List Point). after_turns (shape_of (parts_of old)) points qs) first.points
      ∙ sym (turns_after (shape_of (parts_of old)) (points_of old) ps qs);
  some = ap (λ (b : Bool). b || more) first.some
      ∙ ap (λ (b : Bool). some_runs (shape_of (parts_of old)) (points_of old) ps || b)
      (then.some
      ∙ ap (λ (given : Parts). some_runs (shape_of given) (points_of mid) qs) first.parts
      ∙ ap (λ (points : List Point). some_runs (shape_of (parts_of old)) points qs) first.points)
      ∙ sym (runs_after (shape_of (parts_of old)) (points_of old) ps qs);
}

-- at a processor within a sample there is no turn, and where one lacks something none runs
pub within_took : (net : NetState) (p : ℕ)
    → 0 < (point_of (points_of net) p).cycle
    → TookTurns net net (sample_turns (shape_of (parts_of net)) (points_of net) p) false
within_took net p later =
    subst (λ (ps : List ℕ). TookTurns net net ps false)
    (sym (turns_later (shape_of (parts_of net)) (points_of net) p later)) (none_took net)

pub lacking_took : (net : NetState) (p : ℕ)
    → p < length (shape_of (parts_of net)).feeds
    → lacks (shape_of (parts_of net)) (points_of net) p ≡ true
    → (point_of (points_of net) p).cycle ≡ 0
    → TookTurns net net (sample_turns (shape_of (parts_of net)) (points_of net) p) false
lacking_took net p inside none first =
    let n = period_of (shape_of (parts_of net)) p in
    let still = turns_lacking (shape_of (parts_of net)) (points_of net) p n none in
    subst (λ (ps : List ℕ). TookTurns net net ps false)
    (sym (turns_first (shape_of (parts_of net)) (points_of net) p first))
    (record {
      parts = refl;
      within = all_same_number (λ q. q < length (shape_of (parts_of net)).feeds) n p inside;
      points = sym still.0;
      some = sym still.1;
    })

-- the turns of the samples of the first processors
abbrev pub turns_so_far : NetState → ℕ → List ℕ
turns_so_far net number = turns_of_samples (shape_of (parts_of net)) (points_of net) (range_with_len 0 number)

-- after them, of which some may have run
pub record IsSoFar (old new : NetState) (number : ℕ) (moved : Bool) : Type 0 where
  pub took : TookTurns old new (turns_so_far old number) moved
  pub stays : moved ≡ false → new ≡ old
  pub at : (puts : List Rows) → IsNetSolution (parts_of new) puts → IsNetAt new puts

pub none_so_far : (net : NetState) → IsState net → IsSoFar net net 0 false
none_so_far net is = record { took = none_took net; stays = λ none. refl; at = at_solution net is }

turns_more : (old mid : NetState) (number : ℕ) (moved : Bool)
    → TookTurns old mid (turns_so_far old number) moved
    → turns_so_far old (number + 1)
    ≡ turns_so_far old number ++ sample_turns (shape_of (parts_of mid)) (points_of mid) number
turns_more old mid number moved so =
    ap (λ (ps : List ℕ). turns_of_samples (shape_of (parts_of old)) (points_of old) ps) (numbers_more number)
    ∙ turns_push (shape_of (parts_of old)) (points_of old) (range_with_len 0 number) number
    ∙ ap (λ (points : List Point). turns_so_far old number ++ sample_turns (shape_of (parts_of old)) points number)
    (sym so.points)
    ∙ ap (λ (given : Parts). turns_so_far old number ++ sample_turns (shape_of given) (points_of mid) number)
    (sym so.parts)

pub one_sample_more : (old mid new : NetState) (number : ℕ) (moved ran more : Bool)
    → IsSoFar old mid number moved
    → TookTurns mid new (sample_turns (shape_of (parts_of mid)) (points_of mid) number) ran
    → (ran ≡ false → new ≡ mid)
    → ((puts : List Rows) → IsNetSolution (parts_of new) puts → IsNetAt new puts)
    → more ≡ (moved || ran)
    → IsSoFar old new (number + 1) more
one_sample_more old mid new number moved ran more so one stays at is = record {
  took =
      subst (λ (b : Bool). TookTurns old new (turns_so_far old (number + 1)) b) (sym is)
      (subst (λ (ps : List ℕ). TookTurns old new ps (moved || ran)) (sym (turns_more old mid number moved so.took))
      (took_more old mid new (turns_so_far old number)
      (sample_turns (shape_of (parts_of mid)) (points_of mid) number) moved ran so.took one));
  stays = λ none.
      (let both = or_parts moved ran (sym is ∙ none) in stays both.1 ∙ so.stays both.0);
  at = at;
}

-- what one that ran makes of those so far
pub after_one : (moved : Bool) → true ≡ (moved || true)
after_one true = refl
after_one false = refl

pub after_none : (moved : Bool) → moved ≡ (moved || false)
after_none true = refl
after_none false = refl

module _ (old new : NetState) (moved : Bool) (is : IsState old) (so : IsSoFar old new (length old.processors) moved)
  where
    all_took : TookTurns old new (all_samples (shape_of (parts_of old)) (points_of old)) moved
    all_took =
        subst (λ (n : ℕ). TookTurns old new
        (turns_of_samples (shape_of (parts_of old)) (points_of old) (range_with_len 0 n)) moved)
        (sym (feeds_length old is)) so.took

    pub samples_points : points_of new
        ≡ after_turns (shape_of (parts_of old)) (points_of old) (all_samples (shape_of (parts_of old)) (points_of old))
    samples_points = all_took.points

    pub samples_run : moved
        ≡ some_runs (shape_of (parts_of old)) (points_of old) (all_samples (shape_of (parts_of old)) (points_of old))
    samples_run = all_took.some

    pub samples_rise : moved ≡ true
        → cycles_run (shape_of (parts_of old)) (points_of old) < cycles_run (shape_of (parts_of new)) (points_of new)
    samples_rise ran =
        subst (λ (given : Parts). cycles_run (shape_of (parts_of old)) (points_of old)
        < cycles_run (shape_of given) (points_of new)) (sym all_took.parts)
        (subst (λ (points : List Point). cycles_run (shape_of (parts_of old)) (points_of old)
        < cycles_run (shape_of (parts_of old)) points) (sym all_took.points)
        ((turns_add (shape_of (parts_of old)) is.solved.shape (points_of old)
        (all_samples (shape_of (parts_of old)) (points_of old)) is.marking all_took.within).1
        (sym all_took.some ∙ ran)))

    pub samples_bound : cycles_run (shape_of (parts_of new)) (points_of new) ≤ enough_rounds (shape_of (parts_of new))
    samples_bound =
        subst (λ (given : Parts). cycles_run (shape_of given) (points_of new) ≤ enough_rounds (shape_of given))
        (sym all_took.parts)
        (subst
        (λ (points : List Point). cycles_run (shape_of (parts_of old)) points ≤ enough_rounds (shape_of (parts_of old)))
        (sym all_took.points)
        (cycles_bound (shape_of (parts_of old)) is.solved.shape
        (after_turns (shape_of (parts_of old)) (points_of old) (all_samples (shape_of (parts_of old)) (points_of old)))
        (turns_keep (shape_of (parts_of old)) is.solved.shape (points_of old)
        (all_samples (shape_of (parts_of old)) (points_of old)) is.marking all_took.within)))
