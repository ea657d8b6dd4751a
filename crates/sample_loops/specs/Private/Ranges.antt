-- A list over a range of numbers, in two parts, and over a range that starts later.
use Rattle.std.proofs.Common.{◌≡◌, ◌+◌, ◌∙◌, ap, ap₂, refl, arith, ℕ, zero, suc, ◌∷◌, ◌++◌, map}
use Rattle.std.specs.List.{range_with_len}

pub range_more : {X : Type 0} (f : ℕ → X) (a m n : ℕ)
    → map f (range_with_len a (m + n)) ≡ map f (range_with_len a m) ++ map f (range_with_len (a + m) n)
range_more f a zero n =
    ap₂ (λ b k. map f (range_with_len b k)) (let e : a ≡ a + zero = omega arith in e)
    (let e : zero + n ≡ n = omega arith in e)
range_more f a (suc m) n =
    ap (λ k. map f (range_with_len a k)) (let e : suc m + n ≡ suc (m + n) = omega arith in e)
    ∙ ap (λ l. f a ∷ l) (range_more f (a + 1) m n)
    ∙ ap (λ b. f a ∷ map f (range_with_len (a + 1) m) ++ map f (range_with_len b n))
    (let e : (a + 1) + m ≡ a + suc m = omega arith in e)

range_shift : {X : Type 0} (f : ℕ → X) (a b n : ℕ)
    → map (λ k. f (a + k)) (range_with_len b n) ≡ map f (range_with_len (a + b) n)
range_shift f a b zero = refl
range_shift f a b (suc n) =
    ap (λ l. f (a + b) ∷ l)
    (range_shift f a (b + 1) n
    ∙ ap (λ c. map f (range_with_len c n)) (let e : a + (b + 1) ≡ (a + b) + 1 = omega arith in e))

pub range_from : {X : Type 0} (f : ℕ → X) (a n : ℕ)
    → map (λ k. f (a + k)) (range_with_len 0 n) ≡ map f (range_with_len a n)
range_from f a n =
    range_shift f a 0 n ∙ ap (λ b. map f (range_with_len b n)) (let e : a + 0 ≡ a = omega arith in e)
