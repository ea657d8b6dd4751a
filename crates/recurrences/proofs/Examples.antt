-- A counter, x(n) = x(n - 1) + 1 from x(-1) = 6, and an element that reads itself.
use Rattle.std.proofs.Common.{◌≡◌, refl, sym, ap, ◌∙◌, arith, ℕ, zero, suc, ◌+◌, ◌<◌, false}
use Rattle.std.specs.Prelude.{pos, negsuc, ◌-ℤ◌}
use Rattle.std.proofs.lemmas.Int.{ints}
use Rattle.recurrences.specs.Systems.{Signals, System, Solves, IsOneSolution, DependsNow, direct, by_way_of}
use Rattle.recurrences.specs.Systems.{HasNoDelaylessLoop}
use Rattle.recurrences.proofs.Determined.{IsDetermined}
use Rattle.recurrences.proofs.OneSolution.{loopless_solution}

abbrev counter : System ℕ ℕ
counter = record {
  IsElement = λ e. e < 1;
  past = 1;
  samples = 5;
  Starts = λ e j v. v ≡ 6;
  Gives = λ e n x v. v ≡ x 0 (pos n -ℤ pos 1) + 1;
  Reads = λ e d ago. (d ≡ 0) × (ago ≡ 1);
}

counter_determined : IsDetermined counter
counter_determined = record {
  start = λ e j. 6;
  starts = λ e j el lt. refl;
  starts_once = λ e j v w el a b. a ∙ sym b;
  give = λ e n x. x 0 (pos n -ℤ pos 1) + 1;
  gives = λ e n x el lt. refl;
  gives_once = λ e n x y v w el agree a b. a ∙ ap (λ (k : ℕ). k + 1) (agree 0 1 (refl, refl)) ∙ sym b;
  elements = λ e d ago el r. let z = r.0 in omega arith;
  delays = λ e d ago el r. let o = r.1 in omega arith;
}

counter_loopless : (e d : ℕ) → DependsNow counter.Reads e d → ⊥
counter_loopless e d (direct r) = let h = r.1 in omega arith
counter_loopless e d (by_way_of c r p) = let h = r.1 in omega arith

counter_solution : (x : Signals ℕ ℕ) × IsOneSolution counter x
counter_solution =
    loopless_solution counter counter_determined 1 (λ e el. el) (λ e d. false)
    (λ e d. (λ h. cc, λ r. absurd (let h = r.1 in omega arith)))
    (λ e el p. counter_loopless e e p)

abbrev counts : Signals ℕ ℕ
counts e (pos n) = n + 7
counts e (negsuc j) = 6

counts_on : (e n : ℕ) → counts e (pos n) ≡ counts 0 (pos n -ℤ pos 1) + 1
counts_on e zero = refl
counts_on e (suc n) = let last : pos (suc n) -ℤ pos 1 ≡ pos n = omega (arith, ints) in rw last (omega arith)

counts_solves : Solves counter counts
counts_solves = record {
  past = λ e j el lt. refl;
  present = λ e n el lt. counts_on e n;
}

-- so the solution has 11 at sample 4
counter_counts : counter_solution.0 0 (pos 4) ≡ 11
counter_counts = sym ((counter_solution.1.unique counts counts_solves).present 0 4 (omega arith) (omega arith))

-- x(n) = x(n) + 1 has a loop
reads_itself : HasNoDelaylessLoop {E = ℕ} (λ e d ago. (d ≡ e) × (ago ≡ 0)) (λ e. e < 1) → ⊥
reads_itself none = none 0 (omega arith) (direct (refl, refl))
