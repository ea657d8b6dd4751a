-- Lists of numbers that rise.
use Rattle.std.proofs.Common.{◌≡◌, subst, ap, ◌∙◌, arith, ℕ, zero, suc, ◌+◌, ◌-◌, ◌<◌, ◌≤◌, ◌⊎◌, inl, inr, List, length}
use Rattle.std.specs.Prelude.{slice_index_or, Contains}
use Rattle.std.specs.List.{AllPairs}
use Rattle.std.proofs.lemmas.Bool.{cases_order, cases_lt}
use Rattle.std.proofs.lemmas.List.{get_or_default}

abbrev pub Rises : List ℕ → Type 0
Rises xs = AllPairs (λ (x y : ℕ). x < y) xs

module _ (xs : List ℕ) (rises : Rises xs) where
  -- the number at a place is not below the place
  pub at_least : (k : ℕ) → k < length xs → k ≤ slice_index_or xs k 0
  at_least zero lt = omega arith
  at_least (suc k) lt =
      let less : slice_index_or xs k 0 < slice_index_or xs (suc k) 0 = rises k (suc k) 0 (omega arith) lt in
      omega (arith, at_least k (omega arith))

  pub few : (n : ℕ) → ((k : ℕ) → k < length xs → slice_index_or xs k 0 < n) → length xs ≤ n
  few n below = by (cases_lt 0 (length xs))
    where
      by : (0 < length xs) ⊎ (length xs ≤ 0) → length xs ≤ n
      by (inl some) =
          let last = length xs - 1 in
          omega (arith, at_least last (omega arith), below last (omega arith))
      by (inr none) = omega arith

  -- a number of the list has one place
  pub one_place : (i j : ℕ) → i < length xs → j < length xs → slice_index_or xs i 0 ≡ slice_index_or xs j 0 → i ≡ j
  one_place i j a b same = by (cases_order i j)
    where
      by : (i ≡ j) ⊎ ((i < j) ⊎ (j < i)) → i ≡ j
      by (inl h) = h
      by (inr (inl less)) = absurd (omega (arith, rises i j 0 less b))
      by (inr (inr less)) = absurd (omega (arith, rises j i 0 less a))

  -- the place of a number above one of the list is above its place
  place_above : (i j : ℕ) → i < length xs → j < length xs → slice_index_or xs i 0 < slice_index_or xs j 0 → i < j
  place_above i j a b less = by (cases_order i j)
    where
      by : (i ≡ j) ⊎ ((i < j) ⊎ (j < i)) → i < j
      by (inl same) = absurd (let e = ap (λ (k : ℕ). slice_index_or xs k 0) same in omega arith)
      by (inr (inl lt)) = lt
      by (inr (inr more)) = absurd (omega (arith, rises j i 0 more a))

  not_below : (i j : ℕ) → i ≤ j → j < length xs → slice_index_or xs i 0 ≤ slice_index_or xs j 0
  not_below i j le b = by (cases_order i j)
    where
      by : (i ≡ j) ⊎ ((i < j) ⊎ (j < i)) → slice_index_or xs i 0 ≤ slice_index_or xs j 0
      by (inl same) = let e = ap (λ (k : ℕ). slice_index_or xs k 0) same in omega arith
      by (inr (inl lt)) = omega (arith, rises i j 0 lt b)
      by (inr (inr more)) = absurd (omega arith)

  -- all numbers from first up to n are in the list, the first at this place, and none is above
  module _ (first n start : ℕ) (some : first < n) (there : start < length xs) (at : slice_index_or xs start 0 ≡ first)
      (all : (v : ℕ) → first ≤ v → v < n → Contains xs v)
      (below : (k : ℕ) → k < length xs → slice_index_or xs k 0 < n) where
    pub in_order : (j : ℕ) → first + j < n → (start + j < length xs) × (slice_index_or xs (start + j) 0 ≡ first + j)
    in_order zero lt =
        let place : first ≡ first + 0 = omega arith in
        let same : start ≡ start + 0 = omega arith in
        (omega arith, subst (λ (k : ℕ). slice_index_or xs k 0 ≡ first + 0) same (at ∙ place))
    in_order (suc j) lt = next (in_order j (omega arith)) (all (first + suc j) (omega arith) lt)
      where
        next : (start + j < length xs) × (slice_index_or xs (start + j) 0 ≡ first + j)
            → Contains xs (first + suc j)
            → (start + suc j < length xs) × (slice_index_or xs (start + suc j) 0 ≡ first + suc j)
        next (inside, here) (k, lt, h) =
            let value : slice_index_or xs k 0 ≡ first + suc j = get_or_default xs k 0 (first + suc j) lt ∙ h in
            let above : start + j < k = place_above (start + j) k inside lt (omega arith) in
            let less : slice_index_or xs (start + j) 0 < slice_index_or xs (start + suc j) 0 =
            rises (start + j) (start + suc j) 0 (omega arith) (omega arith) in
            let most : slice_index_or xs (start + suc j) 0 ≤ slice_index_or xs k 0 =
            not_below (start + suc j) k (omega arith) lt in
            (omega arith, omega arith)

    -- so they are the last ones
    pub last_ones : start + (n - first) ≡ length xs
    last_ones =
        let last = in_order (n - first - 1) (omega arith) in
        by (cases_order (start + (n - first)) (length xs)) last.0 last.1
      where
        by : (start + (n - first) ≡ length xs) ⊎ ((start + (n - first) < length xs) ⊎ (length xs < start + (n - first)))
            → start + (n - first - 1) < length xs
            → slice_index_or xs (start + (n - first - 1)) 0 ≡ first + (n - first - 1)
            → start + (n - first) ≡ length xs
        by (inl same) inside here = same
        by (inr (inl more)) inside here =
            absurd (omega (
              arith,
              rises (start + (n - first - 1)) (start + (n - first)) 0 (omega arith) more,
              below (start + (n - first)) more,
            ))
        by (inr (inr less)) inside here = absurd (omega arith)

    -- those before are below the first
    pub before_first : (k : ℕ) → k < start → slice_index_or xs k 0 < first
    before_first k lt = omega (arith, rises k start 0 lt there)
