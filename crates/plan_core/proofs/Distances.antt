-- How far it is from one cycle on to another, around a period.
use Rattle.std.proofs.Common.{◌≡◌, ℕ, ◌+◌, ◌-◌, ◌%◌, ◌<◌, ◌≤◌, ◌⊎◌, inl, inr, ⊎_elim, sym, ap, ◌∙◌, arith}
use Rattle.std.proofs.lemmas.Bool.{cases_lt}
use Rattle.std.proofs.Math.Nat.{mod-lt, mod-mod, mod-eq_of_lt, mod-add-mod, add-mod-mod, add-mod_right}
use Rattle.plan_core.specs.Stages.{distance, IsGapAround}

module _ (q : ℕ) (some : 0 < q) where
  pub distance_below : (t u : ℕ) → distance q t u < q
  distance_below t u = mod-lt (u + (q - t % q)) some

  rest_and_back : (t n : ℕ) → t % q + (n + (q - t % q)) ≡ n + q
  rest_and_back t n = let rest : t % q < q = mod-lt t some in omega (arith, rest)

  -- so many cycles on from the one is the other
  pub at_distance : (t u : ℕ) → (t + distance q t u) % q ≡ u % q
  at_distance t u =
      add-mod-mod t (u + (q - t % q)) q
      ∙ sym (mod-add-mod t q (u + (q - t % q)))
      ∙ ap (λ (n : ℕ). n % q) (rest_and_back t u)
      ∙ add-mod_right u q

  -- and no other number below the period leads there
  pub distance_is : (t u m : ℕ) → m < q → (t + m) % q ≡ u % q → m ≡ distance q t u
  distance_is t u m small there =
      sym (mod-eq_of_lt small)
      ∙ sym (add-mod_right m q)
      ∙ ap (λ (n : ℕ). n % q) (sym (rest_and_back t m))
      ∙ mod-add-mod t q (m + (q - t % q))
      ∙ ap (λ (n : ℕ). n % q) (regroup t m (q - t % q))
      ∙ sym (mod-add-mod (t + m) q (q - t % q))
      ∙ ap (λ (n : ℕ). (n + (q - t % q)) % q) there
      ∙ mod-add-mod u q (q - t % q)
    where
      regroup : (a b c : ℕ) → a + (b + c) ≡ a + b + c
      regroup a b c = omega arith

  -- it is as far from cycle to cycle of the period
  pub distance_of_rests : (t u : ℕ) → distance q (t % q) (u % q) ≡ distance q t u
  distance_of_rests t u =
      ap (λ (n : ℕ). (u % q + (q - n)) % q) (mod-mod t q) ∙ mod-add-mod u q (q - t % q)

  -- and as far so many cycles later
  pub distance_later : (t u c : ℕ) → distance q (t + c) (u + c) ≡ distance q t u
  distance_later t u c =
      sym (distance_is (t + c) (u + c) (distance q t u) (distance_below t u)
      (ap (λ (n : ℕ). n % q) (regroup t c (distance q t u))
      ∙ sym (mod-add-mod (t + distance q t u) q c)
      ∙ ap (λ (n : ℕ). (n + c) % q) (at_distance t u)
      ∙ mod-add-mod u q c))
    where
      regroup : (a b c : ℕ) → a + b + c ≡ a + c + b
      regroup a b c = omega arith

  -- cycles of the period
  pub distance_on : (a b : ℕ) → a ≤ b → b < q → distance q a b ≡ b - a
  distance_on a b le less =
      sym (distance_is a b (b - a) (omega arith) (ap (λ (n : ℕ). n % q) (there a b le)))
    where
      there : (a b : ℕ) → a ≤ b → a + (b - a) ≡ b
      there a b le = omega arith

  pub distance_back : (a b : ℕ) → b < a → a < q → distance q a b ≡ b + q - a
  distance_back a b less small =
      sym (distance_is a b (b + q - a) (omega arith)
      (ap (λ (n : ℕ). n % q) (there a b q less small) ∙ add-mod_right b q))
    where
      there : (a b q : ℕ) → b < a → a < q → a + (b + q - a) ≡ b + q
      there a b q less small = omega arith

  -- what is a gap apart is so, seen from their places in the period, so many cycles later
  pub gap_later : (gap t u c : ℕ) → IsGapAround q gap t u → IsGapAround q gap ((t + c) % q) ((u + c) % q)
  gap_later gap t u c apart =
      let same : distance q ((t + c) % q) ((u + c) % q) ≡ distance q t u =
      distance_of_rests (t + c) (u + c) ∙ distance_later t u c in
      (omega (arith, same, apart.0), omega (arith, same, apart.1))

  pub gap_before : (gap t u c : ℕ) → IsGapAround q gap ((t + c) % q) ((u + c) % q) → IsGapAround q gap t u
  gap_before gap t u c apart =
      let same : distance q ((t + c) % q) ((u + c) % q) ≡ distance q t u =
      distance_of_rests (t + c) (u + c) ∙ distance_later t u c in
      (omega (arith, same, apart.0), omega (arith, same, apart.1))

  -- two issues are a gap apart around the period, or they are not
  pub cases_gap : (gap t u : ℕ) → IsGapAround q gap t u ⊎ (IsGapAround q gap t u → ⊥)
  cases_gap gap t u =
      ⊎_elim
      (λ (near : distance q t u < gap). inr (λ apart. omega (arith, near, apart.0)))
      (λ (far : gap ≤ distance q t u).
      ⊎_elim
      (λ (late : q < distance q t u + gap). inr (λ apart. omega (arith, late, apart.1)))
      (λ (early : distance q t u + gap ≤ q). inl (far, early))
      (cases_lt q (distance q t u + gap)))
      (cases_lt (distance q t u) gap)
