-- Cycles of a run that are a gap apart, by how far they are from one another around the period.
use Rattle.std.proofs.Common.{◌≡◌, ℕ, ◌+◌, ◌-◌, ◌*◌, ◌/◌, ◌%◌, ◌<◌, ◌≤◌, sym, ap, ◌∙◌, arith, ⊎_elim}
use Rattle.std.proofs.lemmas.Bool.{cases_lt}
use Rattle.std.proofs.Math.Nat.{mod-lt, mod-add-mod, mod-eq_of_lt, add-mul-mod_self_right, add-mul}
use Rattle.plan_core.specs.Stages.{distance, IsGapAround}
use Rattle.plan_soundness.proofs.Samples.{split}

module _ (q t u s n : ℕ) (some : 0 < q) where
  -- from cycle t of sample s it is so many cycles on to cycle u of sample n
  abbrev later : ℕ
  later = u + n * q - (t + s * q)

  -- so many whole periods more are on both sides
  forth : t + s * q ≤ u + n * q → u + (q - t % q) + n * q ≡ later + (t / q + s + 1) * q
  forth le =
      let parts : t ≡ t / q * q + t % q = split t q in
      let below : t % q < q = mod-lt t some in
      let whole : (t / q + s + 1) * q ≡ t / q * q + s * q + q = turns in
      omega (arith, parts, below, whole, le)
    where
      turns : (t / q + s + 1) * q ≡ t / q * q + s * q + q
      turns =
          let first : (t / q + s + 1) * q ≡ (t / q + s) * q + 1 * q = add-mul (t / q + s) 1 q in
          let second : (t / q + s) * q ≡ t / q * q + s * q = add-mul (t / q) s q in
          omega (arith, first, second)

  -- the distance to what is less than a period later
  distance_on : t + s * q ≤ u + n * q → later < q → distance q t u ≡ later
  distance_on le less =
      sym (add-mul-mod_self_right (u + (q - t % q)) n q)
      ∙ ap (λ a. a % q) (forth le)
      ∙ add-mul-mod_self_right later (t / q + s + 1) q
      ∙ mod-eq_of_lt less

  -- issues that are a gap apart around the period are so in the run
  pub apart_on : (gap : ℕ) → IsGapAround q gap t u → t + s * q ≤ u + n * q → u + n * q < t + s * q + gap → ⊥
  apart_on gap apart le near =
      let less : later < q = omega (arith, apart.0, apart.1, near, le, mod-lt (u + (q - t % q)) some) in
      omega (arith, apart.0, distance_on le less, near, le)

  -- the distance back
  back : t + s * q ≤ u + n * q → t + (q - u % q) + later + s * q ≡ (u / q + n + 1) * q
  back le =
      let parts : u ≡ u / q * q + u % q = split u q in
      let below : u % q < q = mod-lt u some in
      let first : (u / q + n + 1) * q ≡ (u / q + n) * q + 1 * q = add-mul (u / q + n) 1 q in
      let second : (u / q + n) * q ≡ u / q * q + n * q = add-mul (u / q) n q in
      omega (arith, parts, below, first, second, le)

  round_trip : t + s * q ≤ u + n * q → (distance q u t + later) % q ≡ 0
  round_trip le =
      mod-add-mod (t + (q - u % q)) q later
      ∙ sym (add-mul-mod_self_right (t + (q - u % q) + later) s q)
      ∙ ap (λ a. a % q) (back le ∙ from_zero)
      ∙ add-mul-mod_self_right 0 (u / q + n + 1) q
      ∙ mod-eq_of_lt some
    where
      from_zero : (u / q + n + 1) * q ≡ 0 + (u / q + n + 1) * q
      from_zero = omega arith

  pub apart_back : (gap : ℕ)
      → 0 < gap
      → IsGapAround q gap u t
      → t + s * q ≤ u + n * q
      → u + n * q < t + s * q + gap
      → ⊥
  apart_back gap some-gap apart le near =
      ⊎_elim
      (λ (small : distance q u t + later < q).
      let none : distance q u t + later ≡ 0 = sym (mod-eq_of_lt small) ∙ round_trip le in
      omega (arith, none, apart.0, some-gap))
      (λ (large : q ≤ distance q u t + later). omega (arith, large, apart.1, near, le))
      (cases_lt (distance q u t + later) q)
