-- The keys of entries, sorted.
use Rattle.std.proofs.Common.{◌≡◌, ◌∙◌, ⊎_elim, sym, ap, subst, arith, ℕ, ◌+◌, ◌*◌, ◌%◌, ◌<◌, ◌≤◌, false, List, ◌∷◌, []}
use Rattle.std.proofs.Common.{◌++◌, length, eqb, eq-eqb, ne_eqb}
use Rattle.std.specs.Prelude.{slice_index_or}
use Rattle.std.specs.List.Sorted.{IsPermutation, IsNonDecreasing}
use Rattle.std.proofs.lemmas.Bool.{cases_lt, cases_eq}
use Rattle.std.proofs.lemmas.List.{get_or_default, get_or_read, get_or_append_left, get_or_push, length_push}
use Rattle.std.proofs.lemmas.List.Kept.{AllPairs-from_increasing}
use Rattle.std.proofs.lemmas.List.Sorted.{IsPermutation-sym, Contains-permutation}
use Rattle.std.proofs.lemmas.Map.Keys.{IsDistinct-from_apart, IsDistinct-IsPermutation}
use Rattle.std.proofs.lemmas.Map.Keys.{IsStrictlyIncreasing-from_distinct}
use Rattle.placed_plan.specs.Places.{no_place, place_of}
use Rattle.placed_plan.specs.declared.place.Place.{Place}
use Rattle.place_file.specs.Private.Entries.{nth, no_entry, entry_at, key_limit, AreKeys, AreFirst, entry_by}
use Rattle.place_file.specs.declared.entry.Entry.{Entry}
use Rattle.place_file.proofs.Sorted.{index_of_key}

eqb_flips : (x y : ℕ) → eqb x y ≡ eqb y x
eqb_flips x y =
    ⊎_elim (λ (same : x ≡ y). eq-eqb x y same ∙ sym (eq-eqb y x (sym same)))
    (λ (other : x ≡ y → ⊥). ne_eqb x y other ∙ sym (ne_eqb y x (λ e. other (sym e))))
    (cases_eq x y)

module _ (entries : List Entry) where
  -- the keys as they are made
  abbrev pub AreMade : (k : ℕ) → List ℕ → Type 0
  AreMade k keys =
      (length keys ≡ k) × ((j : ℕ) → j < k → nth keys j ≡ key_limit * (entry_at entries j).node + j)

  pub one_more : (k : ℕ) (keys : List ℕ) (key : ℕ)
      → AreMade k keys
      → key ≡ key_limit * (entry_at entries k).node + k
      → AreMade (k + 1) (keys ++ key ∷ [])
  one_more k keys key made is = (
    length_push keys key ∙ ap (λ (n : ℕ). n + 1) made.0,
    λ j less.
        ⊎_elim
        (λ (early : j < k).
        get_or_append_left keys (key ∷ []) 0 j (omega (arith, early, made.0)) ∙ made.1 j early)
        (λ (late : k ≤ j).
        let at : j ≡ k = omega (arith, less, late) in
        get_or_push keys key 0 j (made.0 ∙ sym at) ∙ is
        ∙ ap (λ (n : ℕ). key_limit * (entry_at entries n).node + n) (sym at))
        (cases_lt j k),
  )

  module _ (made sorted : List ℕ) (few : length entries < key_limit) (are : AreMade (length entries) made)
      (moved : IsPermutation made sorted) (rising : IsNonDecreasing sorted) where
    apart : (i j : ℕ) (z : ℕ)
        → i < j
        → j < length made
        → eqb (slice_index_or made i z) (slice_index_or made j z) ≡ false
    apart i j z less there =
        ne_eqb (slice_index_or made i z) (slice_index_or made j z) (λ equal.
        let x = get_or_default made i z 0 (omega (arith, less, there)) ∙ are.1 i (omega (arith, less, there, are.0)) in
        let y = get_or_default made j z 0 there ∙ are.1 j (omega (arith, there, are.0)) in
        omega (arith, equal, x, y, less, there, are.0, few))

    pub sorted_keys : AreKeys entries sorted
    sorted_keys = record {
      few = few;
      each = λ p there.
          let at = Contains-permutation sorted made (nth sorted p) (IsPermutation-sym made sorted moved)
          (p, there, get_or_default sorted p (nth sorted p) 0 there) in
          let entry : at.0 < length entries = omega (arith, at.1, are.0) in (
            at.0,
            record {
              there = there;
              entry = entry;
              is = sym at.2 ∙ get_or_default made at.0 (nth sorted p) 0 at.1 ∙ are.1 at.0 entry;
            },
          );
      all = λ k less.
          let there : k < length made = omega (arith, less, are.0) in
          let at = Contains-permutation made sorted (nth made k) moved
          (k, there, get_or_default made k (nth made k) 0 there) in (
            at.0,
            record {
              there = at.1;
              entry = less;
              is = get_or_default sorted at.0 0 (nth made k) at.1 ∙ at.2 ∙ are.1 k less;
            },
          );
      order = λ p q less there.
          AllPairs-from_increasing sorted
          (IsStrictlyIncreasing-from_distinct sorted rising
          (IsDistinct-IsPermutation eqb eqb_flips made sorted moved (IsDistinct-from_apart eqb made apart)))
          p q 0 less there;
    }

-- the entry of a key, as the code reads it
module _ (entries : List Entry) (keys : List ℕ) (ks : AreKeys entries keys) (v : ℕ) (there : v < length keys) where
  pub index_low : nth keys v % key_limit < length entries
  index_low =
      let x = ks.each v there in
      omega (
        arith,
        x.1.entry,
        ks.few,
        ap (λ (n : ℕ). n % key_limit) x.1.is
            ∙ index_of_key (entry_at entries x.0).node x.0 (omega (arith, x.1.entry, ks.few)),
      )

  pub entry_read : (e : Entry) → e ≡ slice_index_or entries (nth keys v % key_limit) e → e ≡ entry_by entries keys v
  entry_read e is = get_or_read entries (nth keys v % key_limit) e index_low is no_entry

  -- one node more has its place
  pub first_more : (places : List Place) (lines : List ℕ) (e : Entry)
      → AreFirst entries keys v places lines
      → e ≡ entry_by entries keys v
      → e.node ≡ v
      → AreFirst entries keys (v + 1) (places ++ e.place ∷ []) (lines ++ e.line ∷ [])
  first_more places lines e b is node = record {
    place_count = length_push places e.place ∙ ap (λ (n : ℕ). n + 1) b.place_count;
    line_count = length_push lines e.line ∙ ap (λ (n : ℕ). n + 1) b.line_count;
    node = λ w less.
        at_or_before (λ (n : ℕ). (entry_by entries keys n).node ≡ n) w less (λ early. b.node w early)
        (ap (λ (z : Entry). z.node) (sym is) ∙ node);
    place = λ w less.
        at_or_before (λ (n : ℕ). place_of (places ++ e.place ∷ []) n ≡ (entry_by entries keys n).place) w less
        (λ early.
        get_or_append_left places (e.place ∷ []) no_place w (omega (arith, early, b.place_count)) ∙ b.place w early)
        (get_or_push places e.place no_place v b.place_count ∙ ap (λ (z : Entry). z.place) is);
    line = λ w less.
        at_or_before (λ (n : ℕ). slice_index_or (lines ++ e.line ∷ []) n 0 ≡ (entry_by entries keys n).line) w less
        (λ early.
        get_or_append_left lines (e.line ∷ []) 0 w (omega (arith, early, b.line_count)) ∙ b.line w early)
        (get_or_push lines e.line 0 v b.line_count ∙ ap (λ (z : Entry). z.line) is);
  }
    where
      at_or_before : (P : ℕ → Type 0) (w : ℕ) → w < v + 1 → (w < v → P w) → P v → P w
      at_or_before P w less early here =
          ⊎_elim early
          (λ (late : v ≤ w). let at : v ≡ w = omega (arith, less, late) in subst P at here)
          (cases_lt w v)
