-- The initial values of an element are its words before sample 0.
use Rattle.std.proofs.Common.{◌≡◌, refl, sym, subst, ◌∙◌, ap, arith, ℕ, zero, suc, ◌+◌, ◌<◌, ◌⊎◌, inl, inr, Bool, true}
use Rattle.std.proofs.Common.{false, cond, List, [], ◌∷◌, map, find, slice_get, Some, ℤ}
use Rattle.std.specs.Prelude.{pos, nat_eq, ◌==◌, Contains, slice_index}
use Rattle.std.specs.List.Sorted.{IsStrictlyIncreasing}
use Rattle.std.proofs.lemmas.Bool.Decides.{eqb_tells}
use Rattle.std.proofs.lemmas.List.Elements.{Contains-append_right}
use Rattle.lists.proofs.Places.{contains_at, place_of}
use Rattle.fix_word.specs.declared.types.SigType.{SigType}
use Rattle.silage_syntax.specs.declared.tree.Lit.{Lit}
use Rattle.silage_syntax.specs.Tree.{Program}
use Rattle.silage_meaning.specs.Instances.{Element}
use Rattle.silage_meaning.specs.Solves.{IsPreset, IsInitial}
use Rattle.silage_meaning.specs.Types.{IsRawWord}
use Rattle.signal_graph.specs.Rules.{word_or_zero, word_before}
use Rattle.loop_expand.specs.FlatOf.{AreInitsOf}

-- rising numbers are above the first
abbrev keys : List (ℕ × ℤ) → List ℕ
keys inits = map (λ (i : ℕ × ℤ). i.0) inits

rest_rises : (x : ℕ) (xs : List ℕ) → IsStrictlyIncreasing (x ∷ xs) → IsStrictlyIncreasing xs
rest_rises x xs rise k less =
    let next : suc k + 1 ≡ suc (k + 1) = omega arith in
    subst (λ (m : ℕ). slice_index (x ∷ xs) (suc k) < slice_index (x ∷ xs) m) next (rise (suc k) (omega arith))

first_below : (x : ℕ) (xs : List ℕ)
    → IsStrictlyIncreasing (x ∷ xs)
    → (k : ℕ)
    → (y : ℕ)
    → slice_get xs k ≡ Some y
    → x < y
first_below x [] rise k y e = absurd (cc e)
first_below x (z ∷ xs) rise zero y e =
    let first : x < z = rise 0 (omega arith) in
    let same : z ≡ y = cc e in
    omega arith
first_below x (z ∷ xs) rise (suc k) y e =
    let first : x < z = rise 0 (omega arith) in
    let rest : z < y = first_below z xs (rest_rises x (z ∷ xs) rise) k y e in
    omega arith

key_there : (inits : List (ℕ × ℤ)) (k : ℕ) (i : ℕ × ℤ)
    → slice_get inits k ≡ Some i
    → slice_get (keys inits) k ≡ Some i.0
key_there [] k i e = absurd (cc e)
key_there (x ∷ xs) zero i e = let same : x ≡ i = cc e in ap (λ (z : ℕ × ℤ). Some z.0) same
key_there (x ∷ xs) (suc k) i e = key_there xs k i e

-- an initial value is found by its k
found_at : (inits : List (ℕ × ℤ))
    → IsStrictlyIncreasing (keys inits)
    → (n k : ℕ) (v : ℤ)
    → slice_get inits n ≡ Some (k, v)
    → word_before inits k ≡ v
found_at [] rise n k v e = absurd (cc e)
found_at (x ∷ xs) rise zero k v e =
    let same : x ≡ (k, v) = cc e in
    subst (λ (z : ℕ × ℤ). word_before (z ∷ xs) k ≡ v) (sym same) (first (eqb_tells k k))
  where
    first : ((nat_eq k k ≡ true) × (k ≡ k)) ⊎ ((nat_eq k k ≡ false) × (k ≡ k → ⊥))
        → word_or_zero (cond (k == k) (Some (k, v)) (find (λ (i : ℕ × ℤ). i.0 == k) xs)) ≡ v
    first (inl h) = ap (λ (b : Bool). word_or_zero (cond b (Some (k, v)) (find (λ (i : ℕ × ℤ). i.0 == k) xs))) h.0
    first (inr h) = absurd (h.1 refl)
found_at (x ∷ xs) rise (suc n) k v e =
    let less : x.0 < k = first_below x.0 (keys xs) rise n k (key_there xs n (k, v) e) in
    other less (found_at xs (rest_rises x.0 (keys xs) rise) n k v e) (eqb_tells x.0 k)
  where
    other : x.0 < k
        → word_before xs k ≡ v
        → ((nat_eq x.0 k ≡ true) × (x.0 ≡ k)) ⊎ ((nat_eq x.0 k ≡ false) × (x.0 ≡ k → ⊥))
        → word_before (x ∷ xs) k ≡ v
    other less rest (inl h) = let same = h.1 in absurd (omega arith)
    other less rest (inr h) =
        ap (λ (b : Bool). word_or_zero (cond b (Some x) (find (λ (i : ℕ × ℤ). i.0 == k) xs))) h.0
        ∙ rest

-- where none has the k, the word is 0
data Before (inits : List (ℕ × ℤ)) (k : ℕ) : Type 0 where
  given : (v : ℤ) → Contains inits (k, v) → Before inits k
  absent : word_before inits k ≡ pos 0 → Before inits k

before : (inits : List (ℕ × ℤ)) (k : ℕ) → Before inits k
before [] k = absent refl
before (x ∷ xs) k = by (eqb_tells x.0 k) (before xs k)
  where
    by : ((nat_eq x.0 k ≡ true) × (x.0 ≡ k)) ⊎ ((nat_eq x.0 k ≡ false) × (x.0 ≡ k → ⊥))
        → Before xs k
        → Before (x ∷ xs) k
    by (inl h) rest = given x.1 (contains_at (x ∷ xs) 0 (k, x.1) (ap (λ (n : ℕ). Some (n, x.1)) h.1))
    by (inr h) (given v has) = given v (Contains-append_right (x ∷ []) xs (k, v) has)
    by (inr h) (absent e) =
        absent (ap (λ (b : Bool). word_or_zero (cond b (Some x) (find (λ (i : ℕ × ℤ). i.0 == k) xs))) h.0 ∙ e)

pub inits_initial : (p : Program) (e : Element) (inits : List (ℕ × ℤ)) (j : ℕ)
    → AreInitsOf p e inits
    → IsInitial p e j (word_before inits j)
inits_initial p e inits j are = record {
  given = λ l ty is.
      let a = are.all j l ty is in
      let at = place_of inits (j, a.0) a.2 in
      subst (IsRawWord l ty) (sym (found_at inits are.rise at.0 j a.0 at.1)) a.1;
  absent = λ none. by none (before inits j);
}
  where
    by : ((l : Lit) (ty : SigType) → IsPreset p e j l ty → ⊥) → Before inits j → word_before inits j ≡ pos 0
    by none (absent e) = e
    by none (given v has) = let g = are.given j v has in absurd (none g.0 g.1 g.2)
