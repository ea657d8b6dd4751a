-- What the turns of a round have done so far, and the whole round.
use Rattle.std.proofs.Common.{◌≡◌, ℕ, ◌+◌, ◌<◌, ◌≤◌, Bool, true, false, not, ◌||◌, List, [], ◌∷◌, ◌++◌, length, refl}
use Rattle.std.proofs.Common.{ap, sym, ◌∙◌}
use Rattle.std.proofs.Common.{subst, zero-add, inl, inr}
use Rattle.std.specs.Prelude.{◌↔◌}
use Rattle.std.specs.List.{range_with_len}
use Rattle.std.proofs.lemmas.Bool.{cases_Bool, false≢true}
use Rattle.std.proofs.lemmas.List.{length-map}
use Rattle.lists.specs.Rows.{Rows}
use Rattle.lists.proofs.Ranges.{range_more}
use Rattle.net_turns.specs.Progress.{cycles_run, enough_rounds, after_rounds}
use Rattle.net_turns.specs.Turns.{Point, processors, lacks, after_turn, after_turns, after_round, some_runs}
use Rattle.net_turns.specs.Turns.{is_finished}
use Rattle.net_turns.proofs.Moves.{moves}
use Rattle.net_turns.proofs.Rounds.{cycles_bound, turns_add, all_within, round_keeps, round_runs_none, enough}
use Rattle.net_turns.proofs.Turns.{after_turns-push, some_runs-push}
use Rattle.proc_net.specs.declared.net.Turn.{Turn}
use Rattle.proc_net.specs.declared.net.Turn.TheVariants.{Ran, Lacks}
use Rattle.net_solution.specs.Solutions.{Parts, shape_of, IsNetSolution}
use Rattle.proc_net.specs.Nets.{NetState, parts_of, points_of, IsNetAt}
use Rattle.proc_net.specs.Private.States.{IsState}
use Rattle.proc_net.proofs.Standing.{feeds_length, at_solution}

-- after turns of the first processors, of which some may have run a cycle
pub record IsSoFar (old new : NetState) (number : ℕ) (moved : Bool) : Type 0 where
  pub parts : parts_of new ≡ parts_of old
  pub points : points_of new ≡ after_turns (shape_of (parts_of old)) (points_of old) (range_with_len 0 number)
  pub runs : moved ≡ some_runs (shape_of (parts_of old)) (points_of old) (range_with_len 0 number)
  pub stays : moved ≡ false → new ≡ old
  pub at : (puts : List Rows) → IsNetSolution (parts_of new) puts → IsNetAt new puts

pub none_so_far : (net : NetState) → IsState net → IsSoFar net net 0 false
none_so_far net is = record {
  parts = refl;
  points = refl;
  runs = refl;
  stays = λ none. refl;
  at = at_solution net is;
}

pub numbers_more : (n : ℕ) → range_with_len 0 (n + 1) ≡ range_with_len 0 n ++ n ∷ []
numbers_more n = range_more 0 n ∙ ap (λ (k : ℕ). range_with_len 0 n ++ k ∷ []) (zero-add n)

none_before : (a b : Bool) → (a || b) ≡ false → a ≡ false
none_before false b none = refl
none_before true b none = none

pub one_turn_more : (old mid new : NetState) (number : ℕ) (moved more : Bool)
    → IsSoFar old mid number moved
    → parts_of new ≡ parts_of mid
    → points_of new ≡ after_turn (shape_of (parts_of mid)) (points_of mid) number
    → more ≡ (moved || not (lacks (shape_of (parts_of mid)) (points_of mid) number))
    → (more ≡ false → new ≡ mid)
    → ((puts : List Rows) → IsNetSolution (parts_of new) puts → IsNetAt new puts)
    → IsSoFar old new (number + 1) more
one_turn_more old mid new number moved more so parts points runs stays at = record {
  parts = parts ∙ so.parts;
  points = points
      ∙ ap (λ (given : Parts). after_turn (shape_of given) (points_of mid) number) so.parts
      ∙ ap (λ (points : List Point). after_turn (shape_of (parts_of old)) points number) so.points
      ∙ sym (after_turns-push (shape_of (parts_of old)) (points_of old) (range_with_len 0 number) number)
      ∙ ap (λ (ps : List ℕ). after_turns (shape_of (parts_of old)) (points_of old) ps) (sym (numbers_more number));
  runs = runs
      ∙ ap (λ (given : Parts). moved || not (lacks (shape_of given) (points_of mid) number)) so.parts
      ∙ ap (λ (points : List Point). moved || not (lacks (shape_of (parts_of old)) points number)) so.points
      ∙ ap (λ (b : Bool). b || not (lacks (shape_of (parts_of old))
      (after_turns (shape_of (parts_of old)) (points_of old) (range_with_len 0 number)) number)) so.runs
      ∙ sym (some_runs-push (shape_of (parts_of old)) (points_of old) (range_with_len 0 number) number)
      ∙ ap (λ (ps : List ℕ). some_runs (shape_of (parts_of old)) (points_of old) ps) (sym (numbers_more number));
  stays = λ none. stays none ∙ so.stays (none_before moved _ (sym runs ∙ none));
  at = at;
}

-- whether one ran, by whether this one lacks something
pub ran_more : (moved none : Bool) → none ≡ false → true ≡ (moved || not none)
ran_more true none is = refl
ran_more false none is = rw is refl

pub lacked_more : (moved none : Bool) → none ≡ true → moved ≡ (moved || not none)
lacked_more true none is = refl
lacked_more false none is = rw is refl

-- what a turn answers says whether it lacked something
pub ran_says : (turn : Turn) (none : Bool) → turn ≡ Ran → ((turn ≡ Lacks) ↔ (none ≡ true)) → none ≡ false
ran_says turn true is says = absurd (cc (says.1 refl))
ran_says turn false is says = refl

module _ (old new : NetState) (moved : Bool) (is : IsState old)
    (so : IsSoFar old new (length old.processors) moved) where
  pub round_points : points_of new ≡ after_round (shape_of (parts_of old)) (points_of old)
  round_points =
      so.points
      ∙ ap (λ (n : ℕ). after_turns (shape_of (parts_of old)) (points_of old) (range_with_len 0 n))
      (sym (feeds_length old is))

  pub round_runs : moved ≡ some_runs (shape_of (parts_of old)) (points_of old) (processors (shape_of (parts_of old)))
  round_runs =
      so.runs
      ∙ ap (λ (n : ℕ). some_runs (shape_of (parts_of old)) (points_of old) (range_with_len 0 n))
      (sym (feeds_length old is))

  pub round_moves : (moved ≡ true) ↔ (is_finished (shape_of (parts_of old)) (points_of old) ≡ false)
  round_moves = (
    λ ran.
        elim (cases_Bool (is_finished (shape_of (parts_of old)) (points_of old))) [
          | inl done ↦
              absurd
              (false≢true
              (sym (round_runs_none (shape_of (parts_of old)) is.solved.shape (points_of old) is.marking done)
              ∙ sym round_runs ∙ ran))
          | inr unfinished ↦ unfinished
        ],
    λ unfinished.
        round_runs ∙ moves (shape_of (parts_of old)) is.solved.shape (points_of old) is.marking unfinished,
  )

  pub round_rises : moved ≡ true
      → cycles_run (shape_of (parts_of old)) (points_of old) < cycles_run (shape_of (parts_of new)) (points_of new)
  round_rises ran =
      subst (λ (given : Parts). cycles_run (shape_of (parts_of old)) (points_of old)
      < cycles_run (shape_of given) (points_of new)) (sym so.parts)
      (subst (λ (points : List Point). cycles_run (shape_of (parts_of old)) (points_of old)
      < cycles_run (shape_of (parts_of old)) points) (sym round_points)
      ((turns_add (shape_of (parts_of old)) is.solved.shape (points_of old) (processors (shape_of (parts_of old)))
      is.marking
      (all_within (shape_of (parts_of old)) is.solved.shape)).1 (sym round_runs ∙ ran)))

  pub round_bound : cycles_run (shape_of (parts_of new)) (points_of new) ≤ enough_rounds (shape_of (parts_of new))
  round_bound =
      subst (λ (given : Parts). cycles_run (shape_of given) (points_of new) ≤ enough_rounds (shape_of given))
      (sym so.parts)
      (subst
      (λ (points : List Point). cycles_run (shape_of (parts_of old)) points ≤ enough_rounds (shape_of (parts_of old)))
      (sym round_points)
      (cycles_bound (shape_of (parts_of old)) is.solved.shape (after_round (shape_of (parts_of old)) (points_of old))
      (round_keeps (shape_of (parts_of old)) is.solved.shape (points_of old) is.marking)))

  pub round_enough :
      is_finished (shape_of (parts_of old))
      (after_rounds (shape_of (parts_of old)) (enough_rounds (shape_of (parts_of old))) (points_of old)) ≡ true
  round_enough = enough (shape_of (parts_of old)) is.solved.shape (points_of old) is.marking

-- a net of the same parts has as many processors
pub same_count : (old new : NetState) → parts_of new ≡ parts_of old → length new.processors ≡ length old.processors
same_count old new same =
    sym (length-map new.processors (λ processor. processor.feed))
    ∙ ap (λ (given : Parts). length given.feeds) same
    ∙ length-map old.processors (λ processor. processor.feed)
