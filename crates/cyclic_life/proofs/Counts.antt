-- How many registers a lifetime has in turn.
use Rattle.std.proofs.Common.{◌≡◌, ◌⊎◌, ℕ, ◌+◌, ◌*◌, ◌≤◌, arith, subst, sym, ⊎_elim}
use Rattle.std.proofs.lemmas.Bool.Decides.{nat_tests}
use Rattle.plan_core.specs.Arcs.{IsCount}
use Rattle.cyclic_life.specs.Private.Reads.{copies_of}

pub is_count : (period w r : ℕ) → IsCount (copies_of period w r)
is_count period w r = grind (arith, nat_tests)

pub covered_by : (period w r : ℕ) → r ≤ w + 4 * period → r ≤ w + copies_of period w r * period
covered_by period w r within = grind (arith, nat_tests)

at_one : (period w r : ℕ) → r ≤ w + 1 * period → copies_of period w r ≤ 1
at_one period w r covered = grind (arith, nat_tests)

at_two : (period w r : ℕ) → r ≤ w + 2 * period → copies_of period w r ≤ 2
at_two period w r covered = grind (arith, nat_tests)

at_four : (period w r : ℕ) → copies_of period w r ≤ 4
at_four period w r = grind (arith, nat_tests)

pub least_count : (period w r copies : ℕ) → IsCount copies → r ≤ w + copies * period → copies_of period w r ≤ copies
least_count period w r copies count covered =
    let at = λ (n : ℕ) (is : copies ≡ n) (least : r ≤ w + n * period → copies_of period w r ≤ n).
    subst (λ (k : ℕ). copies_of period w r ≤ k) (sym is)
    (least (subst (λ (k : ℕ). r ≤ w + k * period) is covered))
    in
    ⊎_elim (λ (one : copies ≡ 1). at 1 one (at_one period w r))
    (λ (more : (copies ≡ 2) ⊎ (copies ≡ 4)).
    ⊎_elim (λ (two : copies ≡ 2). at 2 two (at_two period w r))
    (λ (four : copies ≡ 4). at 4 four (λ _. at_four period w r))
    more)
    count
