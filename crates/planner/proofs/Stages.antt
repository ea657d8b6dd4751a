-- Passes in a row, each with one outcome: so the whole has one.
use Rattle.std.proofs.Common.{◌≡◌, ◌⊎◌, inl, inr, ⊎_elim, refl, sym, ap, ◌∙◌, subst, Result, Ok, Err}

-- the outcome has the property, and no other has it
pub record IsOnly {A : Type 0} (P : A → Type 0) (x : A) : Type 0 where
  pub is : P x
  pub one : (y : A) → P y → x ≡ y

-- what a pass may come to: what is right, or a fault that is
abbrev pub Comes : {A F : Type 0} → (A → Type 0) → (F → Type 0) → Result A F → Type 0
Comes Is Fails (Ok a) = Is a
Comes Is Fails (Err f) = Fails f

-- what a pass and the rest after it may come to, where the faults of the pass are told otherwise
abbrev pub Then : {A B E F : Type 0} → (Result A F → Type 0) → (F → E) → (A → Result B E → Type 0) → Result B E
    → Type 0
Then {A} S of T (Ok b) = (a : A) × S (Ok a) × T a (Ok b)
Then {A} {B} {E} {F} S of T (Err e) = ((f : F) × S (Err f) × (of f ≡ e)) ⊎ ((a : A) × S (Ok a) × T a (Err e))

-- the one outcome, unless memory ran out
abbrev pub IsSettled : {A F : Type 0} → F → (Result A F → Type 0) → Result A F → Type 0
IsSettled memory P r = (r ≡ Err memory) ⊎ IsOnly P r

-- a pass finds what is right
abbrev pub Found : {A F : Type 0} → (A → Type 0) → F → Result A F → Type 0
Found {A} Is memory r = (a : A) → Is a → (r ≡ Ok a) ⊎ (r ≡ Err memory)

-- and the fault
abbrev pub Refused : {A F : Type 0} → (F → Type 0) → F → Result A F → Type 0
Refused {A} {F} Fails memory r = (f : F) → Fails f → (r ≡ Err f) ⊎ (r ≡ Err memory)

module _ {A F : Type 0} where
  abbrev good : A → Result A F
  good a = Ok a

  abbrev bad : F → Result A F
  bad f = Err f

  same_good : (a b : A) → good a ≡ good b → a ≡ b
  same_good a b e = cc

  same_bad : (f g : F) → bad f ≡ bad g → f ≡ g
  same_bad f g e = cc

  not_both : {P : Type 0} (a : A) (f : F) → good a ≡ bad f → P
  not_both a f e = absurd (cc)

  module _ (Is : A → Type 0) (Fails : F → Type 0) (memory : F) where
    pub only_ok : (a : A)
        → Is a
        → Found Is memory (Ok a)
        → Refused Fails memory (Ok a)
        → IsOnly (Comes Is Fails) (good a)
    only_ok a is found refused = record { is = is; one = one }
      where
        one : (y : Result A F) → Comes Is Fails y → good a ≡ y
        one (Ok b) h = ⊎_elim (λ e. e) (λ e. not_both a memory e) (found b h)
        one (Err f) h = ⊎_elim (λ e. e) (λ e. not_both a memory e) (refused f h)

    pub only_err : (f : F)
        → (Fails memory → ⊥)
        → (f ≡ memory) ⊎ Fails f
        → Found Is memory (Err f)
        → Refused {A = A} Fails memory (Err f)
        → IsSettled memory (Comes Is Fails) (bad f)
    only_err f never (inl e) found refused = inl (ap bad e)
    only_err f never (inr h) found refused = inr (record { is = h; one = one })
      where
        told : bad f ≡ bad memory → ⊥
        told e = never (subst Fails (same_bad f memory e) h)

        one : (y : Result A F) → Comes Is Fails y → bad f ≡ y
        one (Ok b) k = ⊎_elim (λ e. e) (λ e. absurd (told e)) (found b k)
        one (Err g) k = ⊎_elim (λ e. e) (λ e. absurd (told e)) (refused g k)

module _ {A B E F : Type 0} (S : Result A F → Type 0) (of : F → E) (T : A → Result B E → Type 0) where
  -- the pass stops
  pub stops : (memory f : F) → IsSettled memory S (Err f) → IsSettled (of memory) (Then S of T) (Err (of f))
  stops memory f (inl e) = inl (ap (λ (x : F). Err (of x)) (same_bad f memory e))
  stops memory f (inr x) = inr (record { is = inl (f, x.is, refl); one = one })
    where
      one : (y : Result B E) → Then S of T y → Err (of f) ≡ y
      one (Ok b) h = not_both h.0 f (sym (x.one (Ok h.0) h.1))
      one (Err e) (inl h) = ap (λ (y : E). Err y) (ap of (same_bad f h.0 (x.one (Err h.0) h.1)) ∙ h.2)
      one (Err e) (inr h) = not_both h.0 f (sym (x.one (Ok h.0) h.1))

  -- the pass goes on
  module _ (a : A) (x : IsOnly S (Ok a)) where
    goes_only : (r : Result B E) → IsOnly (T a) r → IsOnly (Then S of T) r
    goes_only r y = record { is = is r y.is; one = one }
      where
        is : (r : Result B E) → T a r → Then S of T r
        is (Ok b) h = (a, x.is, h)
        is (Err e) h = inr (a, x.is, h)

        there : (b : A) (z : Result B E) → S (Ok b) → T b z → T a z
        there b z s t = subst (λ (c : A). T c z) (sym (same_good a b (x.one (Ok b) s))) t

        one : (z : Result B E) → Then S of T z → r ≡ z
        one (Ok b) h = y.one (Ok b) (there h.0 (Ok b) h.1 h.2)
        one (Err e) (inl h) = not_both a h.0 (x.one (Err h.0) h.1)
        one (Err e) (inr h) = y.one (Err e) (there h.0 (Err e) h.1 h.2)

    pub goes : (memory : E) (r : Result B E) → IsSettled memory (T a) r → IsSettled memory (Then S of T) r
    goes memory r (inl e) = inl e
    goes memory r (inr y) = inr (goes_only r y)
