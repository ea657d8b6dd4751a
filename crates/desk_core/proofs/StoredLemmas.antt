-- Files in memory: which file a name finds, and what is found after one was changed or added.
use Rattle.std.proofs.Common.{arith, ◌≡◌, ◌≢◌, refl, sym, ◌∙◌, ap, subst, ℕ, zero, suc, ◌+◌, ◌<◌, ◌≤◌, List, [], ◌∷◌}
use Rattle.std.proofs.Common.{◌++◌, length, take, get_or, Option, Some, None, Bool, true, false, ◌⊎◌, inl, inr}
use Rattle.std.proofs.Common.{length-append}
use Rattle.std.specs.Prelude.{bytes_eq, nat_eq, unwrap_or, if◌then◌else◌, slice_set}
use Rattle.std.specs.Option.{ForSome}
use Rattle.std.proofs.lemmas.Slice.Eq.{bytes_eq-Decides}
use Rattle.std.proofs.lemmas.Bool.{false_from_ne_true}
use Rattle.std.proofs.lemmas.Bool.Decides.{nat_tests}
use Rattle.std.proofs.lemmas.List.{take-append-le, take_all}
use Rattle.desk_core.specs.View.{Name, Content, Files}
use Rattle.desk_core.specs.Desk.{IsPut, content_of}
use Rattle.desk_core.specs.Stored.{lookup, name_at, bytes_at, other_than, IsFound, IsFirst, IsOpen, KeepsPositions}
use Rattle.desk_core.specs.Stored.{IsAppended}
use Rattle.desk_core.specs.declared.stored.OpenInput.{OpenInput}
use Rattle.desk_core.specs.declared.stored.Stored.{Stored}

-- the test of a name
pub same_name : (a b : Name) → a ≡ b → bytes_eq a b ≡ true
same_name a b e = (bytes_eq-Decides a b).1 e

pub other_name : (a b : Name) → a ≢ b → bytes_eq a b ≡ false
other_name a b ne = false_from_ne_true _ (λ t. ne ((bytes_eq-Decides a b).0 t))

-- the file that an index gives
pub name_is : (fs : List Stored) (k : ℕ) (d : Stored) → k < length fs → (get_or fs k d).name ≡ name_at fs k
name_is [] k d h = absurd (omega arith)
name_is (f ∷ fs) zero d h = refl
name_is (f ∷ fs) (suc k) d h = name_is fs k d (omega arith)

pub bytes_is : (fs : List Stored) (k : ℕ) (d : Stored) → k < length fs → (get_or fs k d).bytes ≡ bytes_at fs k
bytes_is [] k d h = absurd (omega arith)
bytes_is (f ∷ fs) zero d h = refl
bytes_is (f ∷ fs) (suc k) d h = bytes_is fs k d (omega arith)

pub named_at : (fs : List Stored) (i : ℕ) (f : Stored) → i < length fs → f ≡ get_or fs i f → f.name ≡ name_at fs i
named_at fs i f h e = ap (λ (x : Stored). x.name) e ∙ name_is fs i f h

pub stored_at : (fs : List Stored) (i : ℕ) (f : Stored) → i < length fs → f ≡ get_or fs i f → f.bytes ≡ bytes_at fs i
stored_at fs i f h e = ap (λ (x : Stored). x.bytes) e ∙ bytes_is fs i f h

-- what a name finds
pub lookup_found : (fs : List Stored) (s : Name) (i : ℕ) → IsFound fs s i → lookup fs s ≡ Some (bytes_at fs i)
lookup_found [] s i h = absurd (let x : i < 0 = h.inside in omega arith)
lookup_found (f ∷ fs) s zero h = ap (λ (b : Bool). if b then Some f.bytes else lookup fs s) (same_name _ _ h.named)
lookup_found (f ∷ fs) s (suc i) h =
    let inside : suc i < suc (length fs) = h.inside in
    ap (λ (b : Bool). if b then Some f.bytes else lookup fs s) (other_name _ _ (h.first 0 (omega arith)))
    ∙ lookup_found fs s i
    (record { inside = omega arith; named = h.named; first = λ k lt. h.first (suc k) (omega arith) })

pub lookup_none : (fs : List Stored) (s : Name) → ((k : ℕ) → k < length fs → name_at fs k ≢ s) → lookup fs s ≡ None
lookup_none [] s h = refl
lookup_none (f ∷ fs) s h =
    ap (λ (b : Bool). if b then Some f.bytes else lookup fs s) (other_name _ _ (h 0 (omega arith)))
    ∙ lookup_none fs s (λ k lt. h (suc k) (omega arith))

-- a name that finds nothing is nowhere
pub none_named : (fs : List Stored) (s : Name) → lookup fs s ≡ None → (k : ℕ) → k < length fs → name_at fs k ≢ s
none_named [] s none k lt e = omega arith
none_named (f ∷ fs) s none zero lt e =
    let t : bytes_eq f.name s ≡ true = same_name f.name s e in
    let found : Some f.bytes ≡ None = sym (ap (λ (b : Bool). if b then Some f.bytes else lookup fs s) t) ∙ none in cc
none_named (f ∷ fs) s none (suc k) lt e = go (bytes_eq f.name s) none (λ rest. none_named fs s rest k (omega arith) e)
  where
    go : (b : Bool) → (if b then Some f.bytes else lookup fs s) ≡ None → (lookup fs s ≡ None → ⊥) → ⊥
    go true found more = cc
    go false found more = more found

-- a file of the same name in the place of the one at i
length_set : (fs : List Stored) (i : ℕ) (f : Stored) → length (slice_set fs i f) ≡ length fs
length_set [] i f = refl
length_set (g ∷ fs) zero f = refl
length_set (g ∷ fs) (suc i) f = ap suc (length_set fs i f)

name_at_set : (fs : List Stored) (i : ℕ) (f : Stored)
    → f.name ≡ name_at fs i
    → (k : ℕ)
    → name_at (slice_set fs i f) k ≡ name_at fs k
name_at_set [] i f e k = refl
name_at_set (g ∷ fs) zero f e zero = e
name_at_set (g ∷ fs) zero f e (suc k) = refl
name_at_set (g ∷ fs) (suc i) f e zero = refl
name_at_set (g ∷ fs) (suc i) f e (suc k) = name_at_set fs i f e k

bytes_at_set : (fs : List Stored) (i : ℕ) (f : Stored) → i < length fs → bytes_at (slice_set fs i f) i ≡ f.bytes
bytes_at_set [] i f h = absurd (omega arith)
bytes_at_set (g ∷ fs) zero f h = refl
bytes_at_set (g ∷ fs) (suc i) f h = bytes_at_set fs i f (omega arith)

bytes_at_set_other : (fs : List Stored) (i : ℕ) (f : Stored) (k : ℕ)
    → k ≢ i
    → bytes_at (slice_set fs i f) k ≡ bytes_at fs k
bytes_at_set_other [] i f k ne = refl
bytes_at_set_other (g ∷ fs) zero f zero ne = absurd (ne refl)
bytes_at_set_other (g ∷ fs) zero f (suc k) ne = refl
bytes_at_set_other (g ∷ fs) (suc i) f zero ne = refl
bytes_at_set_other (g ∷ fs) (suc i) f (suc k) ne = bytes_at_set_other fs i f k (λ e. ne (ap suc e))

lookup_set_other : (fs : List Stored) (i : ℕ) (f : Stored) (s : Name)
    → f.name ≡ name_at fs i
    → s ≢ name_at fs i
    → lookup (slice_set fs i f) s ≡ lookup fs s
lookup_set_other [] i f s e ne = refl
lookup_set_other (g ∷ fs) zero f s e ne =
    ap (λ (b : Bool). if b then Some f.bytes else lookup fs s) (other_name _ _ (λ same. ne (sym same ∙ e)))
    ∙ sym (ap (λ (b : Bool). if b then Some g.bytes else lookup fs s) (other_name _ _ (λ same. ne (sym same))))
lookup_set_other (g ∷ fs) (suc i) f s e ne =
    ap (λ (o : Option Content). if bytes_eq g.name s then Some g.bytes else o) (lookup_set_other fs i f s e ne)

pub found_set : (fs : List Stored) (s : Name) (i : ℕ) (f : Stored)
    → f.name ≡ name_at fs i
    → IsFound fs s i
    → IsFound (slice_set fs i f) s i
found_set fs s i f e h = record {
  inside = let x : i < length fs = h.inside in omega (arith, length_set fs i f);
  named = name_at_set fs i f e i ∙ h.named;
  first = λ k lt same. h.first k lt (sym (name_at_set fs i f e k) ∙ same);
}

pub put_set : (fs : List Stored) (s : Name) (i : ℕ) (f : Stored)
    → f.name ≡ name_at fs i
    → IsFound fs s i
    → IsPut s f.bytes (lookup fs) (lookup (slice_set fs i f))
put_set fs s i f e h = record {
  here =
      lookup_found (slice_set fs i f) s i (found_set fs s i f e h)
      ∙ ap (λ (x : Content). Some x) (bytes_at_set fs i f h.inside);
  others = λ t ne. lookup_set_other fs i f t e (λ q. ne (q ∙ h.named));
}

pub keeps_set : (fs : List Stored) (s : Name) (i : ℕ) (f : Stored)
    → f.name ≡ name_at fs i
    → IsFound fs s i
    → KeepsPositions s fs (slice_set fs i f)
keeps_set fs s i f e h = record {
  longer = omega (arith, length_set fs i f);
  names = λ k lt. name_at_set fs i f e k;
  others = λ k lt ne. bytes_at_set_other fs i f k (λ same. ne (ap (name_at fs) same ∙ h.named));
}

-- what is added to a file leaves each prefix
prefixes_set : (fs : List Stored) (i : ℕ) (f : Stored) (piece : Content)
    → i < length fs
    → f.bytes ≡ bytes_at fs i ++ piece
    → (k n : ℕ)
    → n ≤ length (bytes_at fs k)
    → (n ≤ length (bytes_at (slice_set fs i f) k)) × (take n (bytes_at (slice_set fs i f) k) ≡ take n (bytes_at fs k))
prefixes_set [] i f piece h e k n le = absurd (omega arith)
prefixes_set (g ∷ fs) zero f piece h e zero n le =
    let size : length f.bytes ≡ length g.bytes + length piece = ap (length {A = ℕ}) e ∙ length-append g.bytes piece in
    (omega arith, ap (take n) e ∙ take-append-le n g.bytes piece le)
prefixes_set (g ∷ fs) zero f piece h e (suc k) n le = (le, refl)
prefixes_set (g ∷ fs) (suc i) f piece h e zero n le = (le, refl)
prefixes_set (g ∷ fs) (suc i) f piece h e (suc k) n le = prefixes_set fs i f piece (omega arith) e k n le

pub appended_set : (fs : List Stored) (i : ℕ) (f : Stored) (piece : Content)
    → IsFirst fs i
    → f.name ≡ name_at fs i
    → f.bytes ≡ bytes_at fs i ++ piece
    → IsAppended fs (slice_set fs i f) i piece
appended_set fs i f piece h e same = record {
  same_length = length_set fs i f;
  names = name_at_set fs i f e;
  put =
      subst (λ (xs : Content). IsPut (name_at fs i) xs (lookup fs) (lookup (slice_set fs i f)))
      (same ∙ ap (λ (o : Option Content). content_of o ++ piece) (sym (lookup_found fs (name_at fs i) i h)))
      (put_set fs (name_at fs i) i f e h);
  prefixes = prefixes_set fs i f piece h.inside same;
}

-- a file after the others
name_at_push : (fs : List Stored) (f : Stored) (k : ℕ) → k < length fs → name_at (fs ++ f ∷ []) k ≡ name_at fs k
name_at_push [] f k h = absurd (omega arith)
name_at_push (g ∷ fs) f zero h = refl
name_at_push (g ∷ fs) f (suc k) h = name_at_push fs f k (omega arith)

bytes_at_push : (fs : List Stored) (f : Stored) (k : ℕ) → k < length fs → bytes_at (fs ++ f ∷ []) k ≡ bytes_at fs k
bytes_at_push [] f k h = absurd (omega arith)
bytes_at_push (g ∷ fs) f zero h = refl
bytes_at_push (g ∷ fs) f (suc k) h = bytes_at_push fs f k (omega arith)

name_at_last : (fs : List Stored) (f : Stored) → name_at (fs ++ f ∷ []) (length fs) ≡ f.name
name_at_last [] f = refl
name_at_last (g ∷ fs) f = name_at_last fs f

bytes_at_last : (fs : List Stored) (f : Stored) → bytes_at (fs ++ f ∷ []) (length fs) ≡ f.bytes
bytes_at_last [] f = refl
bytes_at_last (g ∷ fs) f = bytes_at_last fs f

lookup_push_other : (fs : List Stored) (f : Stored) (s : Name) → s ≢ f.name → lookup (fs ++ f ∷ []) s ≡ lookup fs s
lookup_push_other [] f s ne =
    ap (λ (b : Bool). if b then Some f.bytes else None) (other_name _ _ (λ same. ne (sym same)))
lookup_push_other (g ∷ fs) f s ne =
    ap (λ (o : Option Content). if bytes_eq g.name s then Some g.bytes else o) (lookup_push_other fs f s ne)

pub found_push : (fs new : List Stored) (f : Stored) (s : Name)
    → new ≡ fs ++ f ∷ []
    → f.name ≡ s
    → lookup fs s ≡ None
    → IsFound new s (length fs)
found_push fs new f s is e none = subst (λ (gs : List Stored). IsFound gs s (length fs)) (sym is) (record {
  inside = omega (arith, length-append fs (f ∷ []));
  named = name_at_last fs f ∙ e;
  first = λ k lt same. none_named fs s none k lt (sym (name_at_push fs f k lt) ∙ same);
})

pub put_push : (fs new : List Stored) (f : Stored) (s : Name)
    → new ≡ fs ++ f ∷ []
    → f.name ≡ s
    → lookup fs s ≡ None
    → IsPut s f.bytes (lookup fs) (lookup new)
put_push fs new f s is e none = record {
  here =
      lookup_found new s (length fs) (found_push fs new f s is e none)
      ∙ ap (λ (gs : List Stored). Some (bytes_at gs (length fs))) is
      ∙ ap (λ (c : Content). Some c) (bytes_at_last fs f);
  others = λ t ne. ap (λ (gs : List Stored). lookup gs t) is ∙ lookup_push_other fs f t (λ q. ne (q ∙ e));
}

pub keeps_push : (fs new : List Stored) (f : Stored) (s : Name) → new ≡ fs ++ f ∷ [] → KeepsPositions s fs new
keeps_push fs new f s is = subst (λ (gs : List Stored). KeepsPositions s fs gs) (sym is) (record {
  longer = omega (arith, length-append fs (f ∷ []));
  names = λ k lt. name_at_push fs f k lt;
  others = λ k lt ne. bytes_at_push fs f k lt;
})

-- a file that is found and opened with all its bytes
pub found_first : (fs : List Stored) (s : Name) (i : ℕ) → IsFound fs s i → IsFirst fs i
found_first fs s i h = record { inside = h.inside; named = refl; first = λ k lt same. h.first k lt (same ∙ h.named) }

pub found_open : (fs : List Stored) (s : Name) (i len : ℕ)
    → IsFound fs s i
    → len ≡ length (bytes_at fs i)
    → IsOpen fs (record { file = i; len = len })
found_open fs s i len h size = record { first = found_first fs s i h; within = omega arith }

pub opened_bytes : (fs : List Stored) (s : Name) (i len : ℕ) (files : Files)
    → IsFound fs s i
    → len ≡ length (bytes_at fs i)
    → ◌≡◌ {A = Option Files} (Some (lookup fs)) (Some files)
    → take len (bytes_at fs i) ≡ content_of (files s)
opened_bytes fs s i len files h size is =
    take_all len (bytes_at fs i) (omega arith) ∙ sym (ap content_of (lookup_found fs s i h))
    ∙ ap (λ (o : Option Files). content_of (unwrap_or o (lookup fs) s)) is

pub for_this : {A : Type 0} (P : A → Type 0) (a : A) → P a → ForSome (Some a) (λ x. P x)
for_this P a h = λ x e. subst P (cc) h

-- where a file was put
pub first_kept : (fs gs : List Stored) (s : Name) (i : ℕ) → KeepsPositions s fs gs → IsFirst fs i → IsFirst gs i
first_kept fs gs s i k h =
    let inside : i < length fs = h.inside in
    let longer : length fs ≤ length gs = k.longer in
    record {
      inside = omega arith;
      named = refl;
      first = λ j lt same. h.first j lt (sym (k.names j (omega arith)) ∙ same ∙ k.names i inside);
    }

position_is : (fs gs : List Stored) (s : Name) (i at : ℕ)
    → KeepsPositions s fs gs
    → IsFound gs s at
    → IsFirst fs i
    → name_at fs i ≡ s
    → i ≡ at
position_is fs gs s i at k found h named =
    let inside : i < length fs = h.inside in
    let below : i < at → ⊥ = λ lt. found.first i lt (k.names i inside ∙ named) in
    let above : at < i → ⊥ = λ lt. h.first at lt (sym (k.names at (omega arith)) ∙ found.named ∙ sym named) in
    omega arith

pub open_kept : (fs gs : List Stored) (s : Name) (input : OpenInput)
    → KeepsPositions s fs gs
    → IsOpen fs input
    → name_at fs input.file ≢ s
    → IsOpen gs input
open_kept fs gs s input k h ne = record {
  first = first_kept fs gs s input.file k h.first;
  within = subst (λ (b : Content). input.len ≤ length b) (sym (k.others input.file h.first.inside ne)) h.within;
}

-- the input is the file that was put, or another
input_put : (fs gs : List Stored) (s : Name) (at : ℕ) (input : OpenInput)
    → KeepsPositions s fs gs
    → IsFound gs s at
    → IsOpen fs input
    → ((other_than (Some input) at ≡ None) × (name_at fs input.file ≡ s))
    ⊎ ((other_than (Some input) at ≡ Some input) × (name_at fs input.file ≢ s))
input_put fs gs s at input k found h = go (nat_eq input.file at) refl
  where
    go : (b : Bool)
        → nat_eq input.file at ≡ b
        → ((other_than (Some input) at ≡ None) × (name_at fs input.file ≡ s))
        ⊎ ((other_than (Some input) at ≡ Some input) × (name_at fs input.file ≢ s))
    go true e =
        let same : input.file ≡ at = grind (arith, nat_tests) in
        inl (
          ap (λ (b : Bool). if b then None else Some input) e,
          sym (k.names input.file h.first.inside) ∙ ap (name_at gs) same ∙ found.named,
        )
    go false e =
        let other : input.file ≢ at = λ same. grind (arith, nat_tests) in
        inr (
          ap (λ (b : Bool). if b then None else Some input) e,
          λ named. other (position_is fs gs s input.file at k found h.first named),
        )

pub other_than_open : (fs gs : List Stored) (s : Name) (at : ℕ) (input : Option OpenInput)
    → KeepsPositions s fs gs
    → IsFound gs s at
    → ForSome input (λ i. IsOpen fs i)
    → ForSome (other_than input at) (λ i. IsOpen gs i)
other_than_open fs gs s at None k found h = λ i e. absurd (cc)
other_than_open fs gs s at (Some input) k found h = λ i e. elim (input_put fs gs s at input k found (h input refl)) [
  | inl put ↦ (let never : None ≡ Some i = sym put.0 ∙ e in absurd (cc))
  | inr other ↦
      (let same : Some input ≡ Some i = sym other.0 ∙ e in
      subst (IsOpen gs) (cc) (open_kept fs gs s input k (h input refl) other.1))
]

pub output_kept : (fs gs : List Stored) (s : Name) (output : Option ℕ)
    → KeepsPositions s fs gs
    → ForSome output (λ i. IsFirst fs i)
    → ForSome output (λ i. IsFirst gs i)
output_kept fs gs s output k h = λ i e. first_kept fs gs s i k (h i e)

-- where a file grew
pub appended_first : (fs gs : List Stored) (file i : ℕ) (piece : Content)
    → IsAppended fs gs file piece
    → IsFirst fs i
    → IsFirst gs i
appended_first fs gs file i piece k h =
    let inside : i < length fs = h.inside in
    let size : length gs ≡ length fs = k.same_length in
    record {
      inside = omega arith;
      named = refl;
      first = λ j lt same. h.first j lt (sym (k.names j) ∙ same ∙ k.names i);
    }

pub appended_open : (fs gs : List Stored) (file : ℕ) (piece : Content) (input : OpenInput)
    → IsAppended fs gs file piece
    → IsOpen fs input
    → IsOpen gs input
appended_open fs gs file piece input k h = record {
  first = appended_first fs gs file input.file piece k h.first;
  within = (k.prefixes input.file input.len h.within).0;
}
