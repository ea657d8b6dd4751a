-- Lifetimes on the circle, and in the cycles of a run.
use Rattle.std.proofs.Common.{◌≡◌, ℕ, ◌+◌, ◌-◌, ◌*◌, ◌/◌, ◌%◌, ◌<◌, ◌≤◌, sym, ap, ◌∙◌, arith, ⊎_elim}
use Rattle.std.proofs.lemmas.Bool.{cases_order}
use Rattle.std.proofs.Math.Nat.{div-add-mod', add-mul, mul_assoc, add-mul-mod_self_right, mod-mod_of_dvd}
use Rattle.std.proofs.Math.Nat.{dvd_of_mod-eq-zero, mod-lt, mul-le-mul_right}
use Rattle.plan_core.specs.Circle.{Occupies, AreApart}
use Rattle.plan_core.specs.declared.registers.Arc.{Arc}
use Rattle.plan_soundness.specs.Lifetimes.{IsLifetime}
use Rattle.plan_core.proofs.Samples.{step_of_same}

-- a sample begins after whole turns of the circle of u samples, and the rest
pub sample_start : (s u period : ℕ) → s * period ≡ s / u * (u * period) + s % u * period
sample_start s u period =
    sym (ap (λ n. n * period) (div-add-mod' s u))
    ∙ add-mul (s / u * u) (s % u) period
    ∙ ap (λ n. n + s % u * period) (mul_assoc (s / u) u period)

-- what lives in cycle t of the run occupies its cycle of the circle
pub Occupies-lives : (period u : ℕ) (a : Arc) (i s t : ℕ)
    → 0 < u
    → IsLifetime period u a
    → s % a.copies ≡ i
    → a.w + s * period < t
    → t ≤ a.r + s * period
    → Occupies period u a i (t % (u * period))
Occupies-lives period u a i s t some life copy after upto =
    let start : s * period ≡ s / u * (u * period) + s % u * period = sample_start s u period in
    record {
      sample = s % u;
      cycle = t - turns;
      sample_in = mod-lt s some;
      in_turn = mod-mod_of_dvd a.copies s (dvd_of_mod-eq-zero a.copies life.turns) ∙ copy;
      after = omega arith;
      upto = omega arith;
      place = ap (λ n. n % (u * period)) (sym (whole start))
          ∙ add-mul-mod_self_right (t - turns) (s / u) (u * period);
    }
  where
    turns : ℕ
    turns = s / u * (u * period)

    whole : s * period ≡ s / u * (u * period) + s % u * period → t - turns + turns ≡ t
    whole start = omega arith

-- two copies that share no cycle of the circle are never both alive, whatever their samples
pub never-both : (period u : ℕ) (a : Arc) (i : ℕ) (b : Arc) (j s n t : ℕ)
    → 0 < u
    → IsLifetime period u a
    → IsLifetime period u b
    → AreApart period u a i b j
    → s % a.copies ≡ i
    → n % b.copies ≡ j
    → a.w + s * period < t
    → t ≤ a.r + s * period
    → b.w + n * period < t
    → t ≤ b.r + n * period
    → ⊥
never-both period u a i b j s n t some is_a is_b apart copy copy' after upto after' upto' =
    apart.none (t % (u * period))
    (Occupies-lives period u a i s t some is_a copy after upto)
    (Occupies-lives period u b j n t some is_b copy' after' upto')

-- the lives of one copy do not meet
pub same-copy : (period u : ℕ) (a : Arc) (s n t : ℕ)
    → IsLifetime period u a
    → s % a.copies ≡ n % a.copies
    → a.w + s * period < t
    → t ≤ a.r + s * period
    → a.w + n * period < t
    → t ≤ a.r + n * period
    → s ≡ n
same-copy period u a s n t life same after upto after' upto' =
    ⊎_elim
    (λ one. one)
    (λ other.
    ⊎_elim
    (λ below. absurd (clash s n below same upto after'))
    (λ below. absurd (clash n s below (sym same) upto' after))
    other)
    (cases_order s n)
  where
    clash : (s n : ℕ)
        → s < n
        → s % a.copies ≡ n % a.copies
        → t ≤ a.r + s * period
        → a.w + n * period < t
        → ⊥
    clash s n below same upto after' =
        let le : (s + a.copies) * period ≤ n * period =
        mul-le-mul_right period (step_of_same s n a.copies life.some same below) in
        let whole : (s + a.copies) * period ≡ s * period + a.copies * period = add-mul s a.copies period in
        let covered : a.r ≤ a.w + a.copies * period = life.covered in
        omega arith
