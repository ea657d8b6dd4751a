-- A reader takes what spells a value from the front and no more, and reads again what spells an allowed value.
use Rattle.std.proofs.Common.{◌≡◌, ℕ, ◌+◌, ◌<◌, Bool, true, false, List, [], ◌++◌, take, drop, Option, Some}
use Rattle.std.proofs.Common.{None, Result, Ok, Err, refl, sym, ap, subst, ◌∙◌, append_assoc, arith, inl, inr}
use Rattle.std.proofs.lemmas.Bool.{cases_lt}
use Rattle.std.proofs.lemmas.List.{length-take, get_or-drop, get_or-take, get_or_past}
use Rattle.micro_bits.proofs.Bits.{IsDigits}
use Rattle.micro_file.specs.declared.misread.Misread.{Misread}
use Rattle.micro_file.specs.Private.Fields.{Reading, ◌>>=◌, kept, found}

-- how many values a byte has
abbrev pub byte_values : ℕ
byte_values = 256

-- how many values a bit has
abbrev pub bit_values : ℕ
bit_values = 2

pub digits-drop : {base : ℕ} (n : ℕ) (digits : List ℕ) → IsDigits base digits → IsDigits base (drop n digits)
digits-drop n digits h = record { digit = λ i. rw get_or-drop (h.digit (n + i)) }

pub digits-take : {base : ℕ} (n : ℕ) (digits : List ℕ) → 0 < base → IsDigits base digits → IsDigits base (take n digits)
digits-take {base} n digits some h = record {
  digit = λ i.
      elim (cases_lt i n) [
        | inl lt ↦ rw (get_or-take n digits i 0 lt) (h.digit i)
        | inr le ↦ rw (get_or_past (take n digits) i 0 (omega (arith, length-take n digits))) some
      ];
}

-- the text stands in front of what is left, the rest behind it, whose digits are below the base
pub record Takes (base : ℕ) (left text rest : List ℕ) : Type 0 where
  pub parts : left ≡ text ++ rest
  pub rest_fits : IsDigits base rest

infixl 20 ◌⨟◌
pub ◌⨟◌ : {base : ℕ} {a x b y c : List ℕ} → Takes base a x b → Takes base b y c → Takes base a (x ++ y) c
◌⨟◌ {base} {a} {x} {b} {y} {c} p q =
    record { parts = p.parts ∙ ap (λ (t : List ℕ). x ++ t) q.parts ∙ sym (append_assoc x y c); rest_fits = q.rest_fits }

pub takes_none : {base : ℕ} (a : List ℕ) → IsDigits base a → Takes base a [] a
takes_none a h = record { parts = refl; rest_fits = h }

-- an allowed value whose text stands in front
pub record Took {A : Type 0}
    (base : ℕ) (Allowed : A → Type 0) (spell : A → List ℕ) (left : List ℕ) (x : A × List ℕ) : Type 0 where
  pub allowed : Allowed x.0
  pub text : Takes base left (spell x.0) x.1

pub record IsReader {A : Type 0}
    (base : ℕ) (Allowed : A → Type 0) (spell : A → List ℕ) (read : List ℕ → Reading A) : Type 0 where
  pub took : (left : List ℕ) → IsDigits base left → (x : A × List ℕ) → read left ≡ Ok x → Took base Allowed spell left x
  pub again : (x : A) (rest : List ℕ) → Allowed x → read (spell x ++ rest) ≡ Ok (x, rest)

-- ---- steps, one after another

-- what was read, and nothing misread
abbrev pub well : {A : Type 0} → A → Result A Misread
well x = Ok x

abbrev pub misread_as : (A : Type 0) → Misread → Result A Misread
misread_as A misread = Err misread

pub ok_is : {A : Type 0} (x y : A) → well x ≡ Ok y → x ≡ y
ok_is x y e = cc

-- what is read is not misread
pub not_both : {A : Type 0} (r : Result A Misread) (x : A) (misread : Misread) → r ≡ Ok x → r ≡ Err misread → ⊥
not_both (Ok y) x misread well bad = absurd cc
not_both (Err other) x misread well bad = absurd cc

pub bound : {A B : Type 0} (r : Result A Misread) (f : A → Result B Misread) (y : B)
    → (r >>= f) ≡ Ok y
    → (a : A) × (r ≡ Ok a) × (f a ≡ Ok y)
bound (Ok x) f y e = (x, refl, e)
bound (Err misread) f y e = absurd cc

pub was_kept : {A : Type 0} (bytes : List ℕ) (b : Bool) (x y : A) → kept bytes b x ≡ Ok y → (b ≡ true) × (x ≡ y)
was_kept bytes true x y e = (refl, cc)
was_kept bytes false x y e = absurd cc

pub was_found : {A : Type 0} (bytes : List ℕ) (o : Option A) (x : A) → found bytes o ≡ Ok x → o ≡ Some x
was_found bytes None x e = absurd cc
was_found bytes (Some y) x e = cc

pub found_is : {A : Type 0} (bytes : List ℕ) (o : Option A) (x : A) → o ≡ Some x → found bytes o ≡ Ok x
found_is bytes o x e = rw e refl

pub joined : {A B : Type 0} (r : Result A Misread) (f : A → Result B Misread) (a : A) (y : Result B Misread)
    → r ≡ Ok a
    → f a ≡ y
    → (r >>= f) ≡ y
joined r f a y e h = rw e h

-- ---- a test of the value

-- the test is true exactly where the value is such
pub record IsTestOf {A : Type 0} (test : A → Bool) (Such : A → Type 0) : Type 0 where
  pub sound : (x : A) → test x ≡ true → Such x
  pub whole : (x : A) → Such x → test x ≡ true

pub tested :
    {base : ℕ} {A : Type 0} {Allowed : A → Type 0} {spell : A → List ℕ} {read : List ℕ → Reading A}
    (reader : IsReader base Allowed spell read) {test : A → Bool} {Such : A → Type 0} (is : IsTestOf test Such)
    → IsReader base (λ x. Allowed x × Such x) spell (λ bytes. read bytes >>= λ x. kept bytes (test x.0) x)
tested {base} {A} {Allowed} {spell} {read} reader {test} {Such} is = record {
  took = λ bytes fits x e.
      let s = bound (read bytes) (λ (a : A × List ℕ). kept bytes (test a.0) a) x e in
      let k = was_kept bytes (test s.0.0) s.0 x s.2 in
      let t = reader.took bytes fits s.0 s.1 in
      subst (λ (a : A × List ℕ). Took base (λ (v : A). Allowed v × Such v) spell bytes a) k.1
      (record { allowed = (t.allowed, is.sound s.0.0 k.0); text = t.text });
  again = λ x rest ok.
      joined (read (spell x ++ rest)) (λ (a : A × List ℕ). kept (spell x ++ rest) (test a.0) a) (x, rest) (Ok (x, rest))
      (reader.again x rest ok.0) (rw (is.whole x ok.1) refl);
}

-- the same reader, at a fact that says the same
pub such_reader : {base : ℕ} {A : Type 0} {Allowed Such : A → Type 0} {spell : A → List ℕ} {read : List ℕ → Reading A}
    → ((x : A) → Allowed x → Such x)
    → ((x : A) → Such x → Allowed x)
    → IsReader base Allowed spell read
    → IsReader base Such spell read
such_reader to from reader = record {
  took = λ bytes fits x e. let t = reader.took bytes fits x e in record { allowed = to x.0 t.allowed; text = t.text };
  again = λ x rest ok. reader.again x rest (from x ok);
}

-- the same reader, where the spelling is the same
pub so_spelled : {base : ℕ} {A : Type 0} {Allowed : A → Type 0} {spell other : A → List ℕ} {read : List ℕ → Reading A}
    → ((x : A) → spell x ≡ other x)
    → IsReader base Allowed spell read
    → IsReader base Allowed other read
so_spelled same reader = record {
  took = λ bytes fits x e.
      let t = reader.took bytes fits x e in record { allowed = t.allowed; text = rw (← same x.0) t.text };
  again = λ x rest ok. rw (← same x) (reader.again x rest ok);
}
