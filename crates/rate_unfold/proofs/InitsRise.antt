-- The initial values of a phase rise, and are no longer ago than those of the element.
use Rattle.std.proofs.Common.{◌≡◌, ℕ, zero, suc, ◌+◌, ◌*◌, ◌/◌, ◌%◌, ◌<◌, ◌≤◌, ◌⊎◌, inl, inr, List, [], ◌∷◌, length}
use Rattle.std.proofs.Common.{map}
use Rattle.std.proofs.Common.{sym, arith, true, false, ◌==◌, subst}
use Rattle.std.specs.Prelude.{ℤ, All, slice_index}
use Rattle.std.specs.List.Sorted.{IsStrictlyIncreasing}
use Rattle.std.proofs.lemmas.Bool.{cases_eq, eq-eqb, ne_eqb}
use Rattle.std.proofs.lemmas.Nat.{div-add-mod'}
use Rattle.std.proofs.Math.Nat.{lt_of_mul-lt-mul_right}
use Rattle.std.proofs.lemmas.List.Elements.{All-head, All-tail, All-nil, All-cons}
use Rattle.signal_graph.specs.Rules.{max_delay, IsWithin, AreInits}
use Rattle.rate_unfold.specs.Unfolded.{IsBefore, inits_in_phase}
use Rattle.rate_unfold.proofs.Samples.{few_frames}

abbrev keys : List (ℕ × ℤ) → List ℕ
keys l = map (λ (i : ℕ × ℤ). i.0) l

-- samples that rise, from this one on
abbrev RisesFrom : ℕ → List (ℕ × ℤ) → Type 0
RisesFrom low [] = Unit {0}
RisesFrom low ((k, w) ∷ l) = (low ≤ k) × RisesFrom (k + 1) l

rises_sooner : (low b : ℕ) (l : List (ℕ × ℤ)) → b ≤ low → RisesFrom low l → RisesFrom b l
rises_sooner low b [] le rises = tt
rises_sooner low b ((k, w) ∷ l) le rises = let first = rises.0 in (omega (arith, first, le), rises.1)

abbrev BeginsFrom : ℕ → List (ℕ × ℤ) → Type 0
BeginsFrom low [] = Unit {0}
BeginsFrom low ((k, w) ∷ l) = low ≤ k

increasing_rises : (low : ℕ) (l : List (ℕ × ℤ)) → BeginsFrom low l → IsStrictlyIncreasing (keys l) → RisesFrom low l
increasing_rises low [] begins rise = tt
increasing_rises low ((k, w) ∷ []) begins rise = (begins, tt)
increasing_rises low ((k, w) ∷ (n, v) ∷ l) begins rise =
    let first : k < n = rise 0 (omega arith) in
    (begins, increasing_rises (k + 1) ((n, v) ∷ l) (omega arith) (λ i less. rest i less (rise (suc i) (omega arith))))
  where
    rest : (i : ℕ)
        → i + 1 < length (keys ((n, v) ∷ l))
        → slice_index (keys ((k, w) ∷ (n, v) ∷ l)) (suc i) < slice_index (keys ((k, w) ∷ (n, v) ∷ l)) (suc i + 1)
        → slice_index (keys ((n, v) ∷ l)) i < slice_index (keys ((n, v) ∷ l)) (i + 1)
    rest i less here =
        let next : suc i + 1 ≡ suc (i + 1) = omega arith in
        subst (λ (t : ℕ). slice_index (keys ((n, v) ∷ l)) i < slice_index (keys ((k, w) ∷ (n, v) ∷ l)) t) next here

rises_increasing : (low : ℕ) (l : List (ℕ × ℤ)) → RisesFrom low l → IsStrictlyIncreasing (keys l)
rises_increasing low [] rises i less = absurd (omega arith)
rises_increasing low ((k, w) ∷ []) rises i less = absurd (omega arith)
rises_increasing low ((k, w) ∷ (n, v) ∷ l) rises zero less = let first = rises.1.0 in omega arith
rises_increasing low ((k, w) ∷ (n, v) ∷ l) rises (suc i) less =
    let rest = rises_increasing (k + 1) ((n, v) ∷ l) rises.1 i (omega arith) in
    let next : suc i + 1 ≡ suc (i + 1) = omega arith in
    subst (λ (t : ℕ). slice_index (keys ((n, v) ∷ l)) i < slice_index (keys ((k, w) ∷ (n, v) ∷ l)) t) (sym next) rest

module _ (m j : ℕ) (inside : j < m) where
  quotient_rises : (a b : ℕ) → (j + a) % m ≡ 0 → (j + b) % m ≡ 0 → a < b → (j + a) / m < (j + b) / m
  quotient_rises a b none_a none_b less =
      let split_a = div-add-mod' (j + a) m in
      let split_b = div-add-mod' (j + b) m in
      by ((j + a) / m) ((j + b) / m) (omega (arith, split_a, split_b, none_a, none_b))
    where
      by : (c d : ℕ) → c * m < d * m → c < d
      by c d low = lt_of_mul-lt-mul_right m low

  frames_rise : (low b : ℕ) (l : List (ℕ × ℤ))
      → RisesFrom low l
      → ((k : ℕ) → low ≤ k → (j + k) % m ≡ 0 → b ≤ (j + k) / m)
      → RisesFrom b (inits_in_phase m j l)
  frames_rise low b [] rises above = tt
  frames_rise low b ((k, w) ∷ l) rises above = by (cases_eq ((j + k) % m) 0) (λ c h. frames_rise (k + 1) c l rises.1 h)
    where
      by : ((j + k) % m ≡ 0) ⊎ ((j + k) % m ≡ 0 → ⊥)
          → ((c : ℕ) → ((n : ℕ) → k + 1 ≤ n → (j + n) % m ≡ 0 → c ≤ (j + n) / m) → RisesFrom c (inits_in_phase m j l))
          → RisesFrom b (inits_in_phase m j ((k, w) ∷ l))
      by (inl none) rest =
          let test : ((j + k) % m == 0) ≡ true = eq-eqb _ _ none in
          let here : b ≤ (j + k) / m = above k rises.0 none in
          rw test (
            here,
            rest ((j + k) / m + 1) (λ n le whole.
                let less = quotient_rises k n none whole (omega arith) in omega (arith, less)),
          )
      by (inr other) rest =
          let test : ((j + k) % m == 0) ≡ false = ne_eqb _ _ other in
          let low_k = rises.0 in
          rw test (rest b (λ n le whole. above n (omega (arith, low_k, le)) whole))

  near : (k : ℕ) → IsWithin 1 max_delay k → (j + k) % m ≡ 0 → IsWithin 1 max_delay ((j + k) / m)
  near k within none =
      let split = div-add-mod' (j + k) m in
      let before : IsBefore m 0 k j ((j + k) / m) = record { phase = inside; samples = omega (arith, split, none) } in
      let few = few_frames m 0 k j ((j + k) / m) (omega arith) before in
      let low = within.0 in
      let high = within.1 in
      (by ((j + k) / m) (omega (arith, split, none, low)), omega (arith, few, high))
    where
      by : (d : ℕ) → 0 < d * m → 1 ≤ d
      by zero less = absurd (omega arith)
      by (suc d) less = omega arith

  module _ (IsAllowed : ℤ → Type 0) where
    all_of : (P Q : ℕ × ℤ → Type 0)
        → ((k : ℕ) (w : ℤ) → P (k, w) → (j + k) % m ≡ 0 → Q ((j + k) / m, w))
        → (l : List (ℕ × ℤ))
        → All P l
        → All Q (inits_in_phase m j l)
    all_of P Q step [] all = All-nil Q
    all_of P Q step ((k, w) ∷ l) all = by (cases_eq ((j + k) % m) 0) (all_of P Q step l (All-tail P (k, w) l all))
      where
        by : ((j + k) % m ≡ 0) ⊎ ((j + k) % m ≡ 0 → ⊥)
            → All Q (inits_in_phase m j l)
            → All Q (inits_in_phase m j ((k, w) ∷ l))
        by (inl none) rest =
            let test : ((j + k) % m == 0) ≡ true = eq-eqb _ _ none in
            rw test (All-cons Q ((j + k) / m, w) (inits_in_phase m j l) (step k w (All-head P (k, w) l all) none) rest)
        by (inr other) rest =
            let test : ((j + k) % m == 0) ≡ false = ne_eqb _ _ other in rw test rest

    pub inits_sound : (l : List (ℕ × ℤ)) → AreInits IsAllowed l → AreInits IsAllowed (inits_in_phase m j l)
    inits_sound l are = record {
      samples = all_of (λ i. IsWithin 1 max_delay i.0) (λ i. IsWithin 1 max_delay i.0) (λ k w h none. near k h none) l
          are.samples;
      rise = rises_increasing 0 (inits_in_phase m j l)
          (frames_rise 0 0 l (increasing_rises 0 l (begins l) are.rise) (λ k le none. omega arith));
      words = all_of (λ i. IsAllowed i.1) (λ i. IsAllowed i.1) (λ k w h none. h) l are.words;
    }
      where
        begins : (l : List (ℕ × ℤ)) → BeginsFrom 0 l
        begins [] = tt
        begins ((k, w) ∷ l) = omega arith
