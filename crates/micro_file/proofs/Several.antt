-- Many values, one after another, each allowed behind those before it.
use Rattle.std.proofs.Common.{◌≡◌, ℕ, zero, suc, ◌+◌, ◌-◌, ◌<◌, List, [], ◌∷◌, ◌++◌, length, get_or, take, Option, Some}
use Rattle.std.proofs.Common.{None, Ok, refl, sym, ap, subst, ◌∙◌, append_assoc, arith}
use Rattle.std.specs.Prelude.{slice_get}
use Rattle.std.specs.List.{All, AllAdjacentBelow, flat_map}
use Rattle.std.proofs.lemmas.List.{append-nil, length-take-le, get_or-take}
use Rattle.std.proofs.lemmas.List.Concat.{flat_map-cons}
use Rattle.std.proofs.lemmas.Option.{slice_get-get_or}
use Rattle.micro_bits.proofs.Bits.{IsDigits}
use Rattle.micro_file.specs.Private.Fields.{Reading, ◌>>=◌, many_at, last_of}
use Rattle.micro_file.proofs.Readers.{Takes, ◌⨟◌, takes_none, IsReader, bound, ok_is, joined}

-- each value is allowed behind those before it, the first ones being in front
pub data Grows {A : Type 0} (Next : List A → A → Type 0) : List A → List A → Type 0 where
  Whole : (front : List A) → Grows Next front []
  More : (front : List A) (x : A) (xs : List A)
      → Next front x
      → Grows Next (front ++ x ∷ []) xs
      → Grows Next front (x ∷ xs)

module _ {A : Type 0} (Next : List A → A → Type 0) where
  pub grows_at : (front xs : List A)
      → Grows Next front xs
      → (k : ℕ) (d : A)
      → k < length xs
      → Next (front ++ take k xs) (get_or xs k d)
  grows_at front [] g k d lt = absurd (omega arith)
  grows_at front (x ∷ xs) (More _ _ _ next g) zero d lt = rw (append-nil front) next
  grows_at front (x ∷ xs) (More _ _ _ next g) (suc k) d lt =
      rw append_assoc at (grows_at (front ++ x ∷ []) xs g k d (omega arith))

  pub grows_from : (front xs : List A)
      → ((k : ℕ) (d : A) → k < length xs → Next (front ++ take k xs) (get_or xs k d))
      → Grows Next front xs
  grows_from front [] at = Whole front
  grows_from front (x ∷ xs) at =
      More front x xs (rw (append-nil front) at (at 0 x (omega arith)))
      (grows_from (front ++ x ∷ []) xs (λ k d lt. rw append_assoc (at (suc k) d (omega arith))))

-- what was read behind those in front
pub record Read {A : Type 0}
    (base : ℕ) (Next : List A → A → Type 0) (spell : A → List ℕ) (front : List A) (count : ℕ) (bytes : List ℕ)
    (x : List A × List ℕ) : Type 0 where
  pub back : List A
  pub whole : x.0 ≡ front ++ back
  pub counted : length back ≡ count
  pub grows : Grows Next front back
  pub text : Takes base bytes (flat_map spell back) x.1

module _ {base : ℕ} {A : Type 0} (Next : List A → A → Type 0) (spell : A → List ℕ) (one : List A → List ℕ → Reading A)
    (each : (front : List A) → IsReader base (Next front) spell (one front)) where
  many_took : (front : List A) (count : ℕ) (bytes : List ℕ)
      → IsDigits base bytes
      → (x : List A × List ℕ)
      → many_at one front count bytes ≡ Ok x
      → Read base Next spell front count bytes x
  unfolding many_at
  many_took front zero bytes fits x e =
      subst (λ (p : List A × List ℕ). Read base Next spell front 0 bytes p) (ok_is (front, bytes) x e)
      (record {
        back = [];
        whole = sym (append-nil front);
        counted = refl;
        grows = Whole front;
        text = takes_none bytes fits;
      })
  many_took front (suc count) bytes fits x e =
      let s = bound (one front bytes) (λ (a : A × List ℕ). many_at one (front ++ a.0 ∷ []) count a.1) x e in
      let t = (each front).took bytes fits s.0 s.1 in
      let more = many_took (front ++ s.0.0 ∷ []) count s.0.1 t.text.rest_fits x s.2 in
      let text : Takes base bytes (spell s.0.0 ++ flat_map spell more.back) x.1 = t.text ⨟ more.text in
      record {
        back = s.0.0 ∷ more.back;
        whole = more.whole ∙ append_assoc front (s.0.0 ∷ []) more.back;
        counted = omega (arith, more.counted);
        grows = More front s.0.0 more.back t.allowed more.grows;
        text = rw (flat_map-cons spell s.0.0 more.back) text;
      }

  many_again : (front back : List A) (rest : List ℕ)
      → Grows Next front back
      → many_at one front (length back) (flat_map spell back ++ rest) ≡ Ok (front ++ back, rest)
  unfolding many_at
  many_again front [] rest g = ap (λ (xs : List A). Ok (xs, rest)) (sym (append-nil front))
  many_again front (x ∷ xs) rest (More _ _ _ next g) =
      let texts : flat_map spell (x ∷ xs) ++ rest ≡ spell x ++ (flat_map spell xs ++ rest) =
      rw (flat_map-cons spell x xs) (append_assoc (spell x) (flat_map spell xs) rest) in
      let first : one front (flat_map spell (x ∷ xs) ++ rest) ≡ Ok (x, flat_map spell xs ++ rest) =
      ap (one front) texts ∙ (each front).again x (flat_map spell xs ++ rest) next in
      joined (one front (flat_map spell (x ∷ xs) ++ rest))
      (λ (a : A × List ℕ). many_at one (front ++ a.0 ∷ []) (length xs) a.1) (x, flat_map spell xs ++ rest)
      (Ok (front ++ x ∷ xs, rest)) first
      (many_again (front ++ x ∷ []) xs rest g ∙ ap (λ (ys : List A). Ok (ys, rest)) (append_assoc front (x ∷ []) xs))

  pub many_reader : (count : ℕ)
      → IsReader base (λ xs. (length xs ≡ count) × Grows Next [] xs) (flat_map spell) (many_at one [] count)
  many_reader count = record {
    took = λ bytes fits x e.
        let r = many_took [] count bytes fits x e in
        let same : r.back ≡ x.0 = sym r.whole in
        record {
          allowed = subst (λ (xs : List A). (length xs ≡ count) × Grows Next [] xs) same (r.counted, r.grows);
          text = subst (λ (xs : List A). Takes base bytes (flat_map spell xs) x.1) same r.text;
        };
    again = λ xs rest ok.
        subst (λ (n : ℕ). many_at one [] n (flat_map spell xs ++ rest) ≡ Ok (xs, rest)) ok.0
        (many_again [] xs rest ok.1);
  }

-- ---- what holds of each, and of each beside the next

module _ {A : Type 0} (P : A → Type 0) where
  pub all_from : (xs : List A) → Grows (λ _. P) [] xs → All P xs
  all_from xs g k d lt = grows_at (λ _. P) [] xs g k d lt

  pub grows_all : (xs : List A) → All P xs → Grows (λ _. P) [] xs
  grows_all xs all = grows_from (λ _. P) [] xs all

-- behind the last one, if there is one
abbrev pub Behind : {A : Type 0} → (A → A → Type 0) → Option A → A → Type 0
Behind R None x = Unit {0}
Behind R (Some last) x = R last x

last_of_take : {A : Type 0} (xs : List A) (k : ℕ) (d : A)
    → k + 1 < length xs
    → last_of (take (k + 1) xs) ≡ Some (get_or xs k d)
last_of_take xs k d lt =
    let len : length (take (k + 1) xs) ≡ k + 1 = length-take-le (k + 1) xs (omega arith) in
    let there : slice_get (take (k + 1) xs) k ≡ Some (get_or (take (k + 1) xs) k d) =
    slice_get-get_or (take (k + 1) xs) k d (omega arith) in
    let at : length (take (k + 1) xs) - 1 ≡ k = omega arith in
    rw (at, there, get_or-take (k + 1) xs k d (omega arith)) refl

-- allowed by itself, and behind the last one
abbrev pub Rising : {A : Type 0} → (A → Type 0) → (A → A → Type 0) → List A → A → Type 0
Rising P R front x = P x × Behind R (last_of front) x

module _ {A : Type 0} (P : A → Type 0) (R : A → A → Type 0) where
  pub risen_all : (xs : List A) → Grows (Rising P R) [] xs → All P xs
  risen_all xs g k d lt = (grows_at (Rising P R) [] xs g k d lt).0

  pub risen_beside : (xs : List A) → Grows (Rising P R) [] xs → AllAdjacentBelow R xs (length xs)
  risen_beside xs g k d lt = rw (last_of_take xs k d lt) at ((grows_at (Rising P R) [] xs g (k + 1) d lt).1)

  behind_at : (xs : List A)
      → AllAdjacentBelow R xs (length xs)
      → (k : ℕ) (d : A)
      → k < length xs
      → Behind R (last_of (take k xs)) (get_or xs k d)
  behind_at xs beside zero d lt = tt
  behind_at xs beside (suc k) d lt =
      let e : k + 1 ≡ suc k = omega arith in
      let ok : k + 1 < length xs = omega arith in
      subst (λ (j : ℕ). Behind R (last_of (take j xs)) (get_or xs j d)) e (rw (last_of_take xs k d ok) (beside k d ok))

  pub grows_risen : (xs : List A) → All P xs → AllAdjacentBelow R xs (length xs) → Grows (Rising P R) [] xs
  grows_risen xs all beside = grows_from (Rising P R) [] xs (λ k d lt. (all k d lt, behind_at xs beside k d lt))

-- ---- a count, and that many values

pub counted_by :
    {base : ℕ} {A : Type 0} {P : ℕ → Type 0} {spell_count : ℕ → List ℕ} {count_at : List ℕ → Reading ℕ}
    (counter : IsReader base P spell_count count_at) (Q : List A → Type 0) (spell : A → List ℕ)
    (several : ℕ → List ℕ → Reading (List A))
    (each : (n : ℕ) → P n → IsReader base (λ xs. (length xs ≡ n) × Q xs) (flat_map spell) (several n))
    → IsReader base (λ xs. P (length xs) × Q xs) (λ xs. spell_count (length xs) ++ flat_map spell xs)
    (λ bytes. count_at bytes >>= λ n. several n.0 n.1)
counted_by {base} {A} {P} {spell_count} {count_at} counter Q spell several each = record {
  took = λ bytes fits x e.
      let s = bound (count_at bytes) (λ (n : ℕ × List ℕ). several n.0 n.1) x e in
      let t = counter.took bytes fits s.0 s.1 in
      let m = (each s.0.0 t.allowed).took s.0.1 t.text.rest_fits x s.2 in
      record {
        allowed = (subst P (sym m.allowed.0) t.allowed, m.allowed.1);
        text =
            subst (λ (n : ℕ). Takes base bytes (spell_count n ++ flat_map spell x.0) x.1) (sym m.allowed.0)
            (t.text ⨟ m.text);
      };
  again = λ xs rest ok.
      joined (count_at ((spell_count (length xs) ++ flat_map spell xs) ++ rest)) (λ (n : ℕ × List ℕ). several n.0 n.1)
      (length xs, flat_map spell xs ++ rest) (Ok (xs, rest))
      (ap count_at (append_assoc (spell_count (length xs)) (flat_map spell xs) rest)
      ∙ counter.again (length xs) (flat_map spell xs ++ rest) ok.0)
      ((each (length xs) ok.0).again xs rest (refl, ok.1));
}

pub counted :
    {base : ℕ} {A : Type 0} {P : ℕ → Type 0} {spell_count : ℕ → List ℕ} {count_at : List ℕ → Reading ℕ}
    (counter : IsReader base P spell_count count_at) (Next : List A → A → Type 0) (spell : A → List ℕ)
    (one : List A → List ℕ → Reading A) (each : (front : List A) → IsReader base (Next front) spell (one front))
    → IsReader base (λ xs. P (length xs) × Grows Next [] xs) (λ xs. spell_count (length xs) ++ flat_map spell xs)
    (λ bytes. count_at bytes >>= λ n. many_at one [] n.0 n.1)
counted counter Next spell one each =
    counted_by counter (Grows Next []) spell (many_at one []) (λ n _. many_reader Next spell one each n)
