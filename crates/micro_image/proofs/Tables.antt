-- Tables: lists in which each element stands once, at its place.
use Rattle.std.proofs.Common.{◌≡◌, ℕ, zero, suc, ◌+◌, List, [], ◌∷◌, Some, slice_get, subst, arith}

-- each element of a table, from this place on, is allowed and at its place
abbrev pub Placed : {A : Type 0} → (A → Type 0) → (A → ℕ) → ℕ → List A → Type 0
Placed Allowed place first [] = Unit {0}
Placed Allowed place first (x ∷ xs) = ((place x ≡ first) × Allowed x) × Placed Allowed place (suc first) xs

-- an element of such a table is allowed, and at its place
placed_only : {A : Type 0} (Allowed : A → Type 0) (place : A → ℕ) (first : ℕ) (table : List A)
    → Placed Allowed place first table
    → (k : ℕ) (x : A)
    → slice_get table k ≡ Some x
    → (place x ≡ first + k) × Allowed x
placed_only Allowed place first [] h k x e = absurd cc
placed_only {A} Allowed place first (y ∷ ys) h zero x e =
    let same : y ≡ x = cc in
    subst (λ (z : A). (place z ≡ first + 0) × Allowed z) same ((omega (arith, h.0.0), h.0.1))
placed_only Allowed place first (y ∷ ys) h (suc k) x e =
    let more = placed_only Allowed place (suc first) ys h.1 k x e in
    (omega (arith, more.0), more.1)

-- the same of a whole table
pub only_placed : {A : Type 0} (Allowed : A → Type 0) (place : A → ℕ) (table : List A)
    → Placed Allowed place 0 table
    → (k : ℕ) (x : A)
    → slice_get table k ≡ Some x
    → (place x ≡ k) × Allowed x
only_placed Allowed place table h k x e =
    let all = placed_only Allowed place 0 table h k x e in (omega (arith, all.0), all.1)
