-- What holds of each element of a list, and that a value is an element, in the form that a proof recurses on.
use Rattle.std.proofs.Common.{◌<◌, ℕ, zero, suc, List, [], ◌∷◌, ◌++◌, length, slice_index_or, arith, subst, ◌⊎◌, inl}
use Rattle.std.proofs.Common.{inr, ⊎_elim}
use Rattle.std.specs.List.{flat_map, Contains, All}

-- x is an element
pub data In {A : Type 0} (x : A) : List A → Type 0 where
  here : {xs : List A} → In x (x ∷ xs)
  there : {y : A} {xs : List A} → In x xs → In x (y ∷ xs)

-- P holds of each element
pub data Each {A : Type 0} (P : A → Type 0) : List A → Type 0 where
  none : Each P []
  more : {x : A} {xs : List A} → P x → Each P xs → Each P (x ∷ xs)

-- an element stays one with a list behind
pub In-append_left : {A : Type 0} {x : A} {xs : List A} (ys : List A) → In x xs → In x (xs ++ ys)
In-append_left ys here = here
In-append_left ys (there h) = there (In-append_left ys h)

-- and with a list before
pub In-append_right : {A : Type 0} {x : A} (xs : List A) {ys : List A} → In x ys → In x (xs ++ ys)
In-append_right [] h = h
In-append_right (y ∷ xs) h = there (In-append_right xs h)

-- an element of two lists is one of the first or of the second
pub In-append_cases : {A : Type 0} {x : A} (xs : List A) {ys : List A} → In x (xs ++ ys) → In x xs ⊎ In x ys
In-append_cases [] h = inr h
In-append_cases (y ∷ xs) here = inl here
In-append_cases (y ∷ xs) (there h) = ⊎_elim (λ k. inl (there k)) inr (In-append_cases xs h)

-- what one element gives is among what all give
pub In-flat_map : {A B : Type 0} (f : A → List B) {x : A} {xs : List A} {y : B}
    → In x xs
    → In y (f x)
    → In y (flat_map f xs)
In-flat_map f (here {xs = xs}) h = In-append_left (flat_map f xs) h
In-flat_map f (there {y = z} k) h = In-append_right (f z) (In-flat_map f k h)

-- what stands at k is an element
pub In-from_at : {A : Type 0} (xs : List A) (k : ℕ) (default : A) → k < length xs → In (slice_index_or xs k default) xs
In-from_at [] k default h = absurd (omega (arith, h))
In-from_at (x ∷ xs) zero default h = here
In-from_at (x ∷ xs) (suc k) default h = there (In-from_at xs k default (omega (arith, h)))

-- an element by index is one
pub In-from_Contains : {A : Type 0} (xs : List A) (x : A) → Contains xs x → In x xs
In-from_Contains xs x (k, below, is) = subst (λ y. In y xs) is (In-from_at xs k x below)

-- what holds of each holds of an element
pub Each-at : {A : Type 0} {P : A → Type 0} {xs : List A} → Each P xs → (x : A) → In x xs → P x
Each-at none x h = elim h [ ]
Each-at (more p h) x here = p
Each-at (more p h) x (there k) = Each-at h x k

-- from what holds at each index
pub Each-from_All : {A : Type 0} (P : A → Type 0) (xs : List A) → All P xs → Each P xs
Each-from_All P [] h = none
Each-from_All P (x ∷ xs) h =
    more (h 0 x (omega arith)) (Each-from_All P xs (λ k default below. h (suc k) default (omega (arith, below))))

-- and back to it
pub All-from_Each : {A : Type 0} (P : A → Type 0) {xs : List A} → Each P xs → All P xs
All-from_Each P none k default below = absurd (omega (arith, below))
All-from_Each P (more p h) zero default below = p
All-from_Each P (more p h) (suc k) default below = All-from_Each P h k default (omega (arith, below))

-- what follows from P holds of each
pub Each-then : {A : Type 0} {P Q : A → Type 0} {xs : List A} → ((x : A) → P x → Q x) → Each P xs → Each Q xs
Each-then f none = none
Each-then f (more {x = x} p h) = more (f x p) (Each-then f h)

-- of two lists, one behind the other
pub Each-append : {A : Type 0} {P : A → Type 0} {xs ys : List A} → Each P xs → Each P ys → Each P (xs ++ ys)
Each-append none k = k
Each-append (more p h) k = more p (Each-append h k)

-- of all that the elements give
pub Each-flat_map : {A B : Type 0} (P : B → Type 0) (f : A → List B) (xs : List A)
    → ((x : A) → In x xs → Each P (f x))
    → Each P (flat_map f xs)
Each-flat_map P f [] h = none
Each-flat_map P f (x ∷ xs) h = Each-append (h x here) (Each-flat_map P f xs (λ y in'. h y (there in')))
