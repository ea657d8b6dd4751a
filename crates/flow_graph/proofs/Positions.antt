-- The first position at which a test passes, in a list that grows behind.
use Rattle.std.proofs.Common.{◌≡◌, ℕ, ◌+◌, Bool, true, false, cond, List, [], ◌∷◌, ◌++◌, Option, Some, None, length}
use Rattle.std.proofs.Common.{sym, ap, ◌∙◌, arith}
use Rattle.std.specs.List.{position, position_from}
use Rattle.std.proofs.lemmas.Iterator.Adapters.{position_from-zero}

module _ {X : Type 0} (p : X → Bool) where
  from_left : (n v : ℕ) (xs ys : List X) → position_from p n xs ≡ Some v → position_from p n (xs ++ ys) ≡ Some v
  from_left n v [] ys h = absurd (cc)
  from_left n v (x ∷ xs) ys h = by (p x) h (λ h. from_left (n + 1) v xs ys h)
    where
      by : (b : Bool)
          → cond b (Some n) (position_from p (n + 1) xs) ≡ Some v
          → (position_from p (n + 1) xs ≡ Some v → position_from p (n + 1) (xs ++ ys) ≡ Some v)
          → cond b (Some n) (position_from p (n + 1) (xs ++ ys)) ≡ Some v
      by true h ih = h
      by false h ih = ih h

  from_end : (n : ℕ) (xs : List X) (y : X)
      → position_from p n xs ≡ None
      → p y ≡ true
      → position_from p n (xs ++ y ∷ []) ≡ Some (n + length xs)
  from_end n [] y h sure = ap (λ b. cond {A = Option ℕ} b (Some n) None) sure ∙ ap Some (omega arith)
  from_end n (x ∷ xs) y h sure = by (p x) h (λ h. from_end (n + 1) xs y h sure)
    where
      by : (b : Bool)
          → cond b (Some n) (position_from p (n + 1) xs) ≡ None
          → (position_from p (n + 1) xs ≡ None → position_from p (n + 1) (xs ++ y ∷ []) ≡ Some (n + 1 + length xs))
          → cond b (Some n) (position_from p (n + 1) (xs ++ y ∷ [])) ≡ Some (n + length (x ∷ xs))
      by true h ih = absurd (cc)
      by false h ih = ih h ∙ ap Some (omega arith)

  from_other : (n : ℕ) (xs : List X) (y : X) → p y ≡ false → position_from p n (xs ++ y ∷ []) ≡ position_from p n xs
  from_other n [] y fails = ap (λ b. cond {A = Option ℕ} b (Some n) None) fails
  from_other n (x ∷ xs) y fails = ap (λ o. cond (p x) (Some n) o) (from_other (n + 1) xs y fails)

  pub as_from : (xs : List X) → position p xs ≡ position_from p 0 xs
  as_from xs = position_from-zero p xs

  pub position_left : (v : ℕ) (xs ys : List X) → position p xs ≡ Some v → position p (xs ++ ys) ≡ Some v
  position_left v xs ys h = as_from (xs ++ ys) ∙ from_left 0 v xs ys (sym (as_from xs) ∙ h)

  pub position_end : (xs : List X) (y : X)
      → position p xs ≡ None
      → p y ≡ true
      → position p (xs ++ y ∷ []) ≡ Some (length xs)
  position_end xs y none sure =
      as_from (xs ++ y ∷ []) ∙ from_end 0 xs y (sym (as_from xs) ∙ none) sure ∙ ap Some (omega arith)

  pub position_other : (xs : List X) (y : X) → p y ≡ false → position p (xs ++ y ∷ []) ≡ position p xs
  position_other xs y fails = as_from (xs ++ y ∷ []) ∙ from_other 0 xs y fails ∙ sym (as_from xs)
