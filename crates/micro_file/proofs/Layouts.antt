-- What a reader reads is the one reading of a layout.
use Rattle.std.proofs.Common.{◌≡◌, ℕ, zero, suc, ◌+◌, ◌<◌, ◌≤◌, Bool, true, false, List, [], ◌∷◌, ◌++◌, length}
use Rattle.std.proofs.Common.{Ok, Err, refl, sym, ap, subst, ◌∙◌, inl, inr, arith, ◌⊎◌}
use Rattle.std.proofs.lemmas.List.{length-append}
use Rattle.micro_bits.proofs.Bits.{IsDigits}
use Rattle.micro_file.specs.declared.misread.Misread.{Misread}
use Rattle.micro_file.specs.declared.misread.Misread.TheVariants.{Short, Field}
use Rattle.micro_file.specs.Layout.{Reading, Layout, Stands, field_or, field, given, placed, chain}
use Rattle.micro_file.specs.Layout.{judged, many, each}
use Rattle.micro_file.specs.Private.Fields.{◌>>=◌, kept, many_at, each_at}
use Rattle.micro_file.proofs.Readers.{IsReader, ok_is, well, misread_as}

-- the one reading of the layout in front of what is left; what it leaves has digits below the base
pub record Tells {A : Type 0} (base : ℕ) (layout : Layout A) (left : List ℕ) (r : Reading A) : Type 0 where
  pub there : layout left r
  pub only : (other : Reading A) → layout left other → other ≡ r
  pub fits : (x : A × List ℕ) → r ≡ Ok x → IsDigits base x.1

-- what is read in front of digits is the one reading
abbrev pub Is : {A : Type 0} → ℕ → Layout A → (List ℕ → Reading A) → Type 0
Is base layout read = (left : List ℕ) → IsDigits base left → Tells base layout left (read left)

pub err_is : {A : Type 0} (m n : Misread) → misread_as A m ≡ misread_as A n → m ≡ n
err_is m n e = cc

pub as_err : {A : Type 0} (m n : Misread) → m ≡ n → misread_as A m ≡ misread_as A n
as_err {A} m n e = ap (misread_as A) e

pub no_ok : {A : Type 0} (m : Misread) (x : A) → misread_as A m ≡ well x → ⊥
no_ok m x e = absurd cc

pub no_err : {A : Type 0} (m : Misread) (x : A) → well x ≡ misread_as A m → ⊥
no_err m x e = absurd cc

-- the same reading, written otherwise
pub tells_same : {A : Type 0} (base : ℕ) (layout : Layout A) (left : List ℕ) (r q : Reading A)
    → r ≡ q
    → Tells base layout left r
    → Tells base layout left q
tells_same base layout left r q e t = subst (Tells base layout left) e t

pub tells_given : {A : Type 0} (base : ℕ) (x : A) → Is base (given x) (λ left. Ok (x, left))
tells_given {A} base x left fits = record {
  there = refl;
  only = λ other h. h;
  fits = λ y e. subst (λ (p : A × List ℕ). IsDigits base p.1) (ok_is (x, left) y e) fits;
}

-- a layout that knows its place
pub tells_placed : {A : Type 0} (base : ℕ) (layout : List ℕ → Layout A) (left : List ℕ) (r : Reading A)
    → Tells base (layout left) left r
    → Tells base (placed layout) left r
tells_placed base layout left r t = record { there = t.there; only = t.only; fits = t.fits }

-- ---- one after another

module _ {A B : Type 0} (base : ℕ) (first : Layout A) (next : A → Layout B) (left : List ℕ)
    (f : A × List ℕ → Reading B) where
  next_ok : (x : A × List ℕ)
      → Tells base first left (Ok x)
      → Tells base (next x.0) x.1 (f x)
      → Tells base (chain first next) left (f x)
  next_ok x t more = record {
    there = inr (x.0, x.1, t.there, more.there);
    only = λ other h. elim h [
      | inl s ↦ absurd (no_ok s.0 x (t.only (Err s.0) s.2))
      | inr s ↦
          let same : (s.0, s.1) ≡ x = ok_is (s.0, s.1) x (t.only (Ok (s.0, s.1)) s.2) in
          more.only other (subst (λ (p : A × List ℕ). next p.0 p.1 other) same s.3)
    ];
    fits = more.fits;
  }

  next_err : (m : Misread) → Tells base first left (Err m) → Tells base (chain first next) left (Err m)
  next_err m t = record {
    there = inl (m, refl, t.there);
    only = λ other h. elim h [
      | inl s ↦ s.1 ∙ as_err s.0 m (err_is s.0 m (t.only (Err s.0) s.2))
      | inr s ↦ absurd (no_err m (s.0, s.1) (t.only (Ok (s.0, s.1)) s.2))
    ];
    fits = λ x e. absurd (no_ok m x e);
  }

  pub tells_next : (r : Reading A)
      → Tells base first left r
      → ((x : A × List ℕ) → r ≡ Ok x → IsDigits base x.1 → Tells base (next x.0) x.1 (f x))
      → Tells base (chain first next) left (r >>= f)
  tells_next (Ok x) t more = next_ok x t (more x refl (t.fits x refl))
  tells_next (Err m) t more = next_err m t

-- ---- several

pub tells_many : {A : Type 0} (base : ℕ) (one : List A → Layout A) (read : List A → List ℕ → Reading A)
    → ((front : List A) → Is base (one front) (read front))
    → (front : List A) (n : ℕ)
    → Is base (many one front n) (many_at read front n)
unfolding many many_at
tells_many base one read is front zero left fits = tells_given base front left fits
tells_many {A} base one read is front (suc n) left fits =
    tells_next base (one front) (λ x. many one (front ++ x ∷ []) n) left
    (λ (x : A × List ℕ). many_at read (front ++ x.0 ∷ []) n x.1) (read front left) (is front left fits)
    (λ x e d. tells_many base one read is (front ++ x.0 ∷ []) n x.1 d)

pub tells_each :
    {A : Type 0} (base : ℕ) (one : List A → ℕ → Layout (List A)) (read : List A → ℕ → List ℕ → Reading (List A))
    → ((front : List A) (k : ℕ) → Is base (one front k) (read front k))
    → (front : List A) (first count : ℕ)
    → Is base (each one front first count) (each_at read front first count)
unfolding each each_at
tells_each base one read is front first zero left fits = tells_given base front left fits
tells_each {A} base one read is front first (suc n) left fits =
    tells_next base (one front first) (λ xs. each one xs (first + 1) n) left
    (λ (x : List A × List ℕ). each_at read x.0 (first + 1) n x.1) (read front first left) (is front first left fits)
    (λ x e d. tells_each base one read is x.0 (first + 1) n x.1 d)

-- ---- a value that is judged

pub tells_judged : {A : Type 0} (base : ℕ) (place : List ℕ) (Such : Type 0) (x : A) (left : List ℕ) (b : Bool)
    → IsDigits base left
    → (b ≡ true → Such)
    → (Such → b ≡ true)
    → Tells base (judged place Such x) left (kept place b (x, left))
tells_judged {A} base place Such x left true fits sound whole = record {
  there = (refl, sound refl);
  only = by;
  fits = λ y e. subst (λ (p : A × List ℕ). IsDigits base p.1) (ok_is (x, left) y e) fits;
}
  where
    by : (other : Reading A) → judged place Such x left other → other ≡ Ok (x, left)
    by (Ok y) h = ap Ok h.0
    by (Err m) h = absurd (h.1 (sound refl))
tells_judged {A} base place Such x left false fits sound whole = record {
  there = (refl, λ such. not_true (whole such));
  only = by;
  fits = λ y e. absurd (no_ok (Field (length place)) y e);
}
  where
    not_true : false ≡ true → ⊥
    not_true e = absurd cc

    by : (other : Reading A) → judged place Such x left other → other ≡ Err (Field (length place))
    by (Ok y) h = absurd (not_true (whole h.1))
    by (Err m) h = ap Err h.0

-- ---- a field

-- it has so many digits; where they are there, it is blamed so
abbrev pub Sized : {A : Type 0} → ℕ → Misread → List ℕ → Reading A → Type 0
Sized w blame left (Ok x) = w ≤ length left
Sized w blame left (Err m) = ((m ≡ Short) × (length left < w)) ⊎ ((m ≡ blame) × (w ≤ length left))

module _ {A : Type 0} (base : ℕ) (spell : A → List ℕ) (Allowed : A → Type 0) (blame : List ℕ → Misread)
    (read : List ℕ → Reading A) (w : ℕ) (some : A) (size : (x : A) → length (spell x) ≡ w)
    (reader : IsReader base Allowed spell read) (left : List ℕ) (fits : IsDigits base left) where
  -- what stands in front is read
  stands_read : (x : A) (rest : List ℕ) → Stands spell Allowed left x rest → read left ≡ Ok (x, rest)
  stands_read x rest h = ap read h.text ∙ reader.again x rest h.allowed

  -- what is read stands in front
  read_stands : (x : A × List ℕ) → read left ≡ Ok x → Stands spell Allowed left x.0 x.1
  read_stands x e = let t = reader.took left fits x e in record { allowed = t.allowed; text = t.text.parts }

  field_ok : (x : A × List ℕ)
      → read left ≡ Ok x
      → (other : Reading A)
      → field_or spell Allowed blame left other
      → other ≡ Ok x
  field_ok x e (Ok y) h = sym (stands_read y.0 y.1 h) ∙ e
  field_ok x e (Err m) h = elim h [
    | inl s ↦
        let t = read_stands x e in
        absurd (omega (arith, s.1 x.0, ap length t.text, length-append (spell x.0) x.1))
    | inr s ↦ absurd (s.1.none x.0 x.1 (read_stands x e))
  ]

  field_err : (n : Misread)
      → read left ≡ Err n
      → ((n ≡ Short) × (length left < w)) ⊎ ((n ≡ blame left) × (w ≤ length left))
      → (other : Reading A)
      → field_or spell Allowed blame left other
      → other ≡ Err n
  field_err n e why (Ok y) h = absurd (no_err n y (sym (stands_read y.0 y.1 h) ∙ e))
  field_err n e (inl a) (Err m) h = elim h [
    | inl s ↦ as_err m n (s.0 ∙ sym a.0)
    | inr s ↦ absurd (omega (arith, a.1, s.1.whole, size s.1.some))
  ]
  field_err n e (inr a) (Err m) h = elim h [
    | inl s ↦ absurd (omega (arith, a.1, s.1 some, size some))
    | inr s ↦ as_err m n (s.0 ∙ sym a.0)
  ]

  field_stops : (n : Misread)
      → read left ≡ Err n
      → ((n ≡ Short) × (length left < w)) ⊎ ((n ≡ blame left) × (w ≤ length left))
      → field_or spell Allowed blame left (Err n)
  field_stops n e (inl a) = inl (a.0, λ x. omega (arith, a.1, size x))
  field_stops n e (inr a) =
      inr (
        a.0,
        record {
          some = some;
          whole = omega (arith, a.1, size some);
          none = λ x rest h. absurd (no_err n (x, rest) (sym (stands_read x rest h) ∙ e));
        },
      )

  tells_by : (r : Reading A)
      → read left ≡ r
      → Sized w (blame left) left r
      → Tells base (field_or spell Allowed blame) left r
  tells_by (Ok x) e sized = record {
    there = read_stands x e;
    only = field_ok x e;
    fits = λ y same. (reader.took left fits y (e ∙ same)).text.rest_fits;
  }
  tells_by (Err n) e sized = record {
    there = field_stops n e sized;
    only = field_err n e sized;
    fits = λ y same. absurd (no_ok n y same);
  }

  pub tells_field : Sized w (blame left) left (read left) → Tells base (field_or spell Allowed blame) left (read left)
  tells_field sized = tells_by (read left) refl sized

-- what is read of a field is allowed
pub field_allowed :
    {A : Type 0} (base : ℕ) (spell : A → List ℕ) (Allowed : A → Type 0) (left : List ℕ) (r : Reading A) (x : A × List ℕ)
    → Tells base (field spell Allowed) left r
    → r ≡ Ok x
    → Allowed x.0
field_allowed base spell Allowed left r x t e = (subst (field spell Allowed left) e t.there).allowed
