-- Lists: equal functions, what stands before, what is found.
use Rattle.std.proofs.Common.{◌≡◌, ◌<◌, ◌≤◌, ◌+◌, refl, ap₂, subst, arith, ℕ, zero, suc, Bool, true, false}
use Rattle.std.proofs.Common.{if◌then◌else◌, List, [], ◌∷◌, ◌++◌, map, find, Option, Some}
use Rattle.std.specs.List.{flat_map, range_with_len}
use Rattle.micro_image.proofs.Each.{In, here, there}

-- equal functions give equal lists
pub flat_map-same : {A B : Type 0} (f g : A → List B)
    → ((x : A) → f x ≡ g x)
    → (xs : List A)
    → flat_map f xs ≡ flat_map g xs
flat_map-same f g h [] = refl
flat_map-same f g h (x ∷ xs) = ap₂ ◌++◌ (h x) (flat_map-same f g h xs)

-- functions that agree on the elements give equal lists
pub map-same : {A B : Type 0} (f g : A → B) (xs : List A) → ((x : A) → In x xs → f x ≡ g x) → map f xs ≡ map g xs
map-same f g [] h = refl
map-same f g (x ∷ xs) h = ap₂ ◌∷◌ (h x here) (map-same f g xs (λ y in'. h y (there in')))

-- the numbers of a range
pub In-range : (low n k : ℕ) → In k (range_with_len low n) → (low ≤ k) × (k < low + n)
In-range low zero k h = elim h [ ]
In-range low (suc n) k here = (omega arith, omega arith)
In-range low (suc n) k (there h) = let rest = In-range (low + 1) n k h in (omega (arith, rest.0), omega (arith, rest.1))

found_with : {A : Type 0} (test : A → Bool) (x : A) (b : Bool) (rest : Option A) (y : A)
    → test x ≡ b
    → (if b then Some x else rest) ≡ Some y
    → (rest ≡ Some y → test y ≡ true)
    → test y ≡ true
found_with test x true rest y is found h = let same : x ≡ y = cc in subst (λ w. test w ≡ true) same is
found_with test x false rest y is found h = h found

-- what is found passes the test
pub find-passes : {A : Type 0} (test : A → Bool) (xs : List A) (y : A) → find test xs ≡ Some y → test y ≡ true
find-passes test [] y found = absurd (cc)
find-passes test (x ∷ xs) y found = found_with test x (test x) (find test xs) y refl found (find-passes test xs y)
