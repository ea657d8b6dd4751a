-- The initial values of a phase are those of the element at the samples of the phase.
use Rattle.std.proofs.Common.{◌≡◌, ℕ, ◌+◌, ◌*◌, ◌/◌, ◌%◌, ◌<◌, ◌≤◌, ◌⊎◌, inl, inr, List, [], ◌∷◌}
use Rattle.std.proofs.Common.{refl, ap, ◌∙◌, arith, true, false, cond, ◌==◌, Some}
use Rattle.std.specs.Prelude.{ℤ, pos, find, All}
use Rattle.std.proofs.lemmas.Bool.{cases_eq, eq-eqb, ne_eqb}
use Rattle.std.proofs.lemmas.Nat.{div-mul-add, mod-mul-add, div-add-mod'}
use Rattle.std.proofs.lemmas.List.Elements.{All-head, All-tail}
use Rattle.signal_graph.specs.Rules.{max_delay, word_before, word_or_zero, IsWithin}
use Rattle.rate_unfold.specs.Unfolded.{inits_in_phase}

-- a multiple of m
pub whole : (m d : ℕ) → 0 < m → ((d * m) / m ≡ d) × ((d * m) % m ≡ 0)
whole m d some =
    let e : d * m ≡ d * m + 0 = omega arith in
    (ap (λ (n : ℕ). n / m) e ∙ div-mul-add d m 0 some, ap (λ (n : ℕ). n % m) e ∙ mod-mul-add d m 0 some)

module _ (m j : ℕ) (some : 0 < m) (d t : ℕ) (is : t + j ≡ d * m) where
  abbrev At : List (ℕ × ℤ) → Type 0
  At l = word_before (inits_in_phase m j l) d ≡ word_before l t

  its_frame : (k : ℕ) → k ≡ t → ((j + k) / m ≡ d) × ((j + k) % m ≡ 0)
  its_frame k same =
      let sum : j + k ≡ d * m = omega (arith, same, is) in
      let w = whole m d some in
      (ap (λ (n : ℕ). n / m) sum ∙ w.0, ap (λ (n : ℕ). n % m) sum ∙ w.1)

  its_sample : (k : ℕ) → (j + k) % m ≡ 0 → (j + k) / m ≡ d → k ≡ t
  its_sample k none frame =
      let split = div-add-mod' (j + k) m in
      let at : (j + k) / m * m ≡ d * m = ap (λ (n : ℕ). n * m) frame in
      omega (arith, split, at, none, is)

  in_it : (k : ℕ) (w : ℤ) (l : List (ℕ × ℤ))
      → (j + k) % m ≡ 0
      → At l
      → word_or_zero
      (cond ((j + k) / m == d) (Some ((j + k) / m, w)) (find (λ (i : ℕ × ℤ). i.0 == d) (inits_in_phase m j l)))
      ≡ word_or_zero (cond (k == t) (Some (k, w)) (find (λ (i : ℕ × ℤ). i.0 == t) l))
  in_it k w l none rest = by (cases_eq k t)
    where
      by : (k ≡ t) ⊎ (k ≡ t → ⊥)
          → word_or_zero
          (cond ((j + k) / m == d) (Some ((j + k) / m, w)) (find (λ (i : ℕ × ℤ). i.0 == d) (inits_in_phase m j l)))
          ≡ word_or_zero (cond (k == t) (Some (k, w)) (find (λ (i : ℕ × ℤ). i.0 == t) l))
      by (inl same) =
          let first : ((j + k) / m == d) ≡ true = eq-eqb _ _ (its_frame k same).0 in
          let second : (k == t) ≡ true = eq-eqb _ _ same in
          rw (first, second) refl
      by (inr other) =
          let first : ((j + k) / m == d) ≡ false = ne_eqb _ _ (λ h. other (its_sample k none h)) in
          let second : (k == t) ≡ false = ne_eqb _ _ other in
          rw (first, second) rest

  out_of_it : (k : ℕ) (w : ℤ) (l : List (ℕ × ℤ))
      → ((j + k) % m ≡ 0 → ⊥)
      → At l
      → word_before (inits_in_phase m j l) d
      ≡ word_or_zero (cond (k == t) (Some (k, w)) (find (λ (i : ℕ × ℤ). i.0 == t) l))
  out_of_it k w l not_none rest =
      let second : (k == t) ≡ false = ne_eqb _ _ (λ h. not_none (its_frame k h).1) in
      rw second rest

  pub its_word : (l : List (ℕ × ℤ)) → At l
  its_word [] = refl
  its_word ((k, w) ∷ l) = by (cases_eq ((j + k) % m) 0) (its_word l)
    where
      by : ((j + k) % m ≡ 0) ⊎ ((j + k) % m ≡ 0 → ⊥) → At l → At ((k, w) ∷ l)
      by (inl none) rest =
          let test : ((j + k) % m == 0) ≡ true = eq-eqb _ _ none in rw test (in_it k w l none rest)
      by (inr other) rest =
          let test : ((j + k) % m == 0) ≡ false = ne_eqb _ _ other in rw test (out_of_it k w l other rest)

-- no initial value is longer ago than a delay may be
pub none_before : (l : List (ℕ × ℤ)) (t : ℕ)
    → All (λ (i : ℕ × ℤ). IsWithin 1 max_delay i.0) l
    → max_delay < t
    → word_before l t ≡ pos 0
none_before [] t all far = refl
none_before ((k, w) ∷ l) t all far =
    let head = All-head (λ (i : ℕ × ℤ). IsWithin 1 max_delay i.0) (k, w) l all in
    let near : k ≤ max_delay = head.1 in
    let other : (k == t) ≡ false = ne_eqb k t (λ h. omega (arith, near, far, h)) in
    rw other (none_before l t (All-tail (λ (i : ℕ × ℤ). IsWithin 1 max_delay i.0) (k, w) l all) far)
