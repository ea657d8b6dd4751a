-- Lists of pieces that are all as long.
use Rattle.std.proofs.Common.{◌≡◌, ℕ, suc, ◌+◌, ◌*◌, ◌<◌, List, [], ◌∷◌, length, get_or, take, sym}
use Rattle.std.proofs.Common.{ap, ap₂, ◌∙◌, arith, length-append}
use Rattle.std.specs.List.{flat_map}
use Rattle.std.proofs.lemmas.List.{length-take}
use Rattle.std.proofs.lemmas.List.Concat.{get_or-flat_map}

module _ {X A : Type 0} (f : X → List A) (size : ℕ) (pieces : (x : X) → length (f x) ≡ size) where
  pub length_blocks : (xs : List X) → length (flat_map f xs) ≡ length xs * size
  length_blocks [] = omega arith
  length_blocks (x ∷ xs) =
      length-append (f x) (flat_map f xs) ∙ ap₂ (λ (a b : ℕ). a + b) (pieces x) (length_blocks xs) ∙ product (length xs)
    where
      product : (n : ℕ) → size + n * size ≡ suc n * size
      product n = grind arith

  pub block_at : (xs : List X) (i j : ℕ) (e : X) (d : A)
      → i < length xs
      → j < size
      → get_or (flat_map f xs) (i * size + j) d ≡ get_or (f (get_or xs i e)) j d
  block_at xs i j e d inside less =
      let many : length (take i xs) ≡ i = omega (arith, length-take i xs) in
      let front : length (flat_map f (take i xs)) ≡ i * size =
      length_blocks (take i xs) ∙ ap (λ (n : ℕ). n * size) many in
      let short : j < length (f (get_or xs i e)) = rw (pieces (get_or xs i e)) less in
      ap (λ (n : ℕ). get_or (flat_map f xs) (n + j) d) (sym front) ∙ get_or-flat_map f xs i j e d inside short
