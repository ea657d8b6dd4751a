-- What stands at a place of a list.
use Rattle.std.proofs.Common.{◌≡◌, ℕ, zero, suc, List, [], ◌∷◌, map, get_or, Some, refl, subst}
use Rattle.std.specs.Prelude.{slice_get}
use Rattle.std.proofs.lemmas.Option.{get_or_from_slice_get}

module _ {A : Type 0} where
  module _ {B : Type 0} (f : A → B) where
    pub map_at : (xs : List A) (i : ℕ) (x : A) → slice_get xs i ≡ Some x → slice_get (map f xs) i ≡ Some (f x)
    map_at [] i x is = absurd (cc)
    map_at (y ∷ ys) zero x is = let same : y ≡ x = cc in subst (λ (z : A). Some (f y) ≡ Some (f z)) same refl
    map_at (y ∷ ys) (suc i) x is = map_at ys i x is

    pub get_or-map_at : (xs : List A) (i : ℕ) (x : A) (d : B) → slice_get xs i ≡ Some x → get_or (map f xs) i d ≡ f x
    get_or-map_at xs i x d is = get_or_from_slice_get (map f xs) i (f x) d (map_at xs i x is)

    -- from a place of the one list to that of the other
    pub map_from : (xs : List A) (i : ℕ) (y : B)
        → slice_get (map f xs) i ≡ Some y
        → (x : A) × (slice_get xs i ≡ Some x) × (f x ≡ y)
    map_from [] i y is = absurd (cc)
    map_from (x ∷ xs) zero y is = (x, refl, let same : f x ≡ y = cc in same)
    map_from (x ∷ xs) (suc i) y is = map_from xs i y is
