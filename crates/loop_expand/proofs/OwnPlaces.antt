-- A sum of sizes, where each thing that is larger than 1 has a place of its own in a list of amounts.
use Rattle.std.proofs.Common.{◌≡◌, ◌≢◌, subst, ◌∙◌, arith, ℕ, suc, ◌+◌, ◌*◌, ◌≤◌, ◌⊎◌, inl, inr, List, [], ◌∷◌, length}
use Rattle.std.proofs.Common.{slice_get, sum_by, refl, Some}
use Rattle.std.proofs.Math.ListN.{set}
use Rattle.std.proofs.lemmas.List.Sums.{sum_by-cons, sum_by-set}
use Rattle.std.proofs.lemmas.Option.{slice_get_within, get_or_from_slice_get}
use Rattle.lists.proofs.Places.{at_set_other}

-- a thing takes a place, and its size is at most 1 and 3 for each unit of the amount there
pub record HasPlace (amounts : List ℕ) (Takes : (place : ℕ) → Type 0) (size : ℕ) : Type 0 where
  pub place : ℕ
  pub amount : ℕ
  pub there : slice_get amounts place ≡ Some amount
  pub takes : Takes place
  pub most : size ≤ 1 + 3 * amount

-- the places of the things behind the first, where the amount at its place is spent
others_place : (amounts : List ℕ) (Takes : ℕ → ℕ → Type 0)
    → ((k l place : ℕ) → Takes k place → Takes l place → k ≡ l)
    → (first : ℕ)
    → Takes 0 first
    → (k size : ℕ)
    → HasPlace amounts (Takes (suc k)) size
    → HasPlace (set amounts first 0) (Takes (suc k)) size
others_place amounts Takes apart first taken k size h = record {
  place = h.place;
  amount = h.amount;
  there = at_set_other amounts first h.place 0 other ∙ h.there;
  takes = h.takes;
  most = h.most;
}
  where
    other : h.place ≢ first
    other same = let e = apart 0 (suc k) first taken (subst (Takes (suc k)) same h.takes) in omega arith

module _ {A : Type 0} (size : A → ℕ) where
  pub sum_by_places : (xs : List A) (amounts : List ℕ) (Takes : ℕ → ℕ → Type 0)
      → ((k l place : ℕ) → Takes k place → Takes l place → k ≡ l)
      → ((k : ℕ) (x : A) → slice_get xs k ≡ Some x → (size x ≤ 1) ⊎ HasPlace amounts (Takes k) (size x))
      → sum_by size xs ≤ length xs + 3 * sum_by (λ (n : ℕ). n) amounts
  sum_by_places [] amounts Takes apart has = omega arith
  sum_by_places (x ∷ xs) amounts Takes apart has = elim (has 0 x refl) [
    | inl small ↦
        let cons = sum_by-cons size x xs in
        let rest = sum_by_places xs amounts (λ k place. Takes (suc k) place)
        (λ k l place a b. let e = apart (suc k) (suc l) place a b in omega arith) (λ k y e. has (suc k) y e) in
        omega arith
    | inr own ↦
        let cons = sum_by-cons size x xs in
        let spent = sum_by-set (λ (n : ℕ). n) amounts own.place 0 0
        (slice_get_within amounts own.place own.amount own.there) in
        let at = get_or_from_slice_get amounts own.place own.amount 0 own.there in
        let rest = sum_by_places xs (set amounts own.place 0) (λ k place. Takes (suc k) place)
        (λ k l place a b. let e = apart (suc k) (suc l) place a b in omega arith)
        (λ k y e. elim (has (suc k) y e) [
          | inl small ↦ inl small
          | inr h ↦ inr (others_place amounts Takes apart own.place own.takes k (size y) h)
        ]) in
        let most = own.most in
        omega arith
  ]
