-- Lists of what functions give at numbers, where the functions agree.
use Rattle.std.proofs.Common.{◌≡◌, refl, ap, ◌∙◌, arith, ℕ, ◌<◌, List, [], ◌∷◌, map}
use Rattle.std.specs.Prelude.{All}
use Rattle.std.specs.List.{range_with_len}
use Rattle.std.proofs.lemmas.List.Elements.{All-head, All-tail}
use Rattle.std.proofs.lemmas.List.FromFn.{fill_by_all, length-map-range_with_len, get_or-map-range_with_len}

module _ {A : Type 0} (f g : ℕ → A) where
  -- at the numbers below n; the default is of no account
  pub range_same : (n : ℕ) (default : A)
      → ((k : ℕ) → k < n → f k ≡ g k)
      → map f (range_with_len 0 n) ≡ map g (range_with_len 0 n)
  range_same n default same =
      fill_by_all g (map f (range_with_len 0 n)) n default (length-map-range_with_len f 0 n)
      (λ k lt. get_or-map-range_with_len f 0 n k k default lt (omega arith) ∙ same k lt)

  -- at the numbers of a list
  pub map_same : (xs : List ℕ) → All (λ (x : ℕ). f x ≡ g x) xs → map f xs ≡ map g xs
  map_same [] all = refl
  map_same (x ∷ xs) all =
      ap (λ (y : A). y ∷ map f xs) (All-head (λ (z : ℕ). f z ≡ g z) x xs all)
      ∙ ap (λ (ys : List A). g x ∷ ys) (map_same xs (All-tail (λ (z : ℕ). f z ≡ g z) x xs all))
