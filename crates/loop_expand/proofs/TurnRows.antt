-- Turns of a loop in the turns around it.
use Rattle.std.proofs.Common.{◌≡◌, ◌<◌, ◌≤◌, ◌+◌, ◌-◌, ◌∙◌, ℕ, zero, suc, ℤ, pos, negsuc, ◌+ℤ◌, ◌-ℤ◌, ◌<ℤ◌, List, []}
use Rattle.std.proofs.Common.{◌∷◌, ◌++◌, map, length, drop, get_or, slice_get, Some, Result, Ok, Err, IfOk, ◌⊎◌, inl}
use Rattle.std.proofs.Common.{inr, refl, sym, subst, ap, ap₂, arith, append_assoc, append-nil}
use Rattle.lists.proofs.Places.{some_once, drop_end}
use Rattle.std.specs.List.{range_with_len}
use Rattle.std.proofs.lemmas.Int.{ints}
use Rattle.std.proofs.lemmas.List.{map-append}
use Rattle.silage_syntax.specs.Tree.{Manifest}
use Rattle.silage_syntax.specs.Manifests.{Indices, manifest_value}
use Rattle.element_rules.specs.ElementRules.{at_least_0, loop_turns}
use Rattle.loop_expand.specs.declared.columns.Column.{Column as RustColumn}
use Rattle.loop_expand.specs.declared.columns.InnerTurn.{InnerTurn}
use Rattle.loop_expand.specs.Private.Columns.{AreFull}
use Rattle.loop_expand.specs.Private.Turns.{at, view_column, view_columns, row_at, turns_within, AreInside, inner_at}
use Rattle.loop_expand.specs.Private.Turns.{inner_of, inner_columns}
use Rattle.lists.proofs.Ranges.{range_next}
use Rattle.loop_expand.proofs.FactSteps.{range_end, drop_item}

-- an item of two lists is one of the first or of the second
pub at_either : {A : Type 0} (xs ys : List A) (i : ℕ) (x : A)
    → slice_get (xs ++ ys) i ≡ Some x
    → ((j : ℕ) × (slice_get xs j ≡ Some x)) ⊎ ((j : ℕ) × (slice_get ys j ≡ Some x))
at_either [] ys i x e = inr (i, e)
at_either (y ∷ xs) ys zero x e = inl (0, e)
at_either (y ∷ xs) ys (suc i) x e = elim (at_either xs ys i x e) [ inl (j, h) ↦ inl (suc j, h) | inr h ↦ inr h ]

-- turns one behind the other
module _ (outer : ℕ) (lo : ℤ) where
  abbrev Rest : (k count : ℕ) → List InnerTurn
  Rest k count = map (inner_at outer) (map (λ j. lo +ℤ pos j) (range_with_len (0 + k) (count - k)))

  pub turns_more : (count k : ℕ) (old new whole : List InnerTurn) (turn : InnerTurn)
      → k < count
      → turn ≡ inner_at outer (lo +ℤ pos k)
      → new ≡ old ++ turn ∷ []
      → old ++ Rest k count ≡ whole
      → new ++ Rest (k + 1) count ≡ whole
  turns_more count k old new whole turn less is more so_far =
      let first : 0 + k ≡ k = omega arith in
      ap (λ l. l ++ Rest (k + 1) count)
      (more ∙ ap (λ t. old ++ t ∷ []) (is ∙ ap (λ j. inner_at outer (lo +ℤ pos j)) (sym first)))
      ∙ append_assoc old (inner_at outer (lo +ℤ pos (0 + k)) ∷ []) (Rest (k + 1) count)
      ∙ sym (ap (λ ns. old ++ map (inner_at outer) (map (λ j. lo +ℤ pos j) ns)) (range_next 0 k count less)) ∙ so_far

  pub turns_end : (count k : ℕ) (old whole : List InnerTurn) → count ≤ k → old ++ Rest k count ≡ whole → old ≡ whole
  turns_end count k old whole past so_far =
      sym (append-nil old)
      ∙ sym (ap (λ ns. old ++ map (inner_at outer) (map (λ j. lo +ℤ pos j) ns)) (range_end k count past)) ∙ so_far

-- the turns in each turn around, one after the other
module _ (turns : ℕ → List ℤ) where
  pub inner_more : (count k : ℕ) (old new whole : List InnerTurn)
      → k < count
      → new ≡ old ++ map (inner_at k) (turns k)
      → old ++ inner_of turns (range_with_len (0 + k) (count - k)) ≡ whole
      → new ++ inner_of turns (range_with_len (0 + (k + 1)) (count - (k + 1))) ≡ whole
  inner_more count k old new whole less more so_far =
      let first : 0 + k ≡ k = omega arith in
      let rest = inner_of turns (range_with_len (0 + (k + 1)) (count - (k + 1))) in
      ap (λ l. l ++ rest) (more ∙ ap (λ j. old ++ map (inner_at j) (turns j)) (sym first))
      ∙ append_assoc old (map (inner_at (0 + k)) (turns (0 + k))) rest
      ∙ sym (ap (λ ns. old ++ inner_of turns ns) (range_next 0 k count less)) ∙ so_far

  pub inner_end : (count k : ℕ) (old whole : List InnerTurn)
      → count ≤ k
      → old ++ inner_of turns (range_with_len (0 + k) (count - k)) ≡ whole
      → old ≡ whole
  inner_end count k old whole past so_far =
      sym (append-nil old) ∙ sym (ap (λ ns. old ++ inner_of turns ns) (range_end k count past)) ∙ so_far

-- turns that are the same in each turn around
pub inner_same : (F G : ℕ → List ℤ) (a n : ℕ)
    → ((k : ℕ) → k < a + n → F k ≡ G k)
    → inner_of F (range_with_len a n) ≡ inner_of G (range_with_len a n)
inner_same F G a zero same = refl
inner_same F G a (suc n) same =
    ap₂ ◌++◌ (ap (map (inner_at a)) (same a (omega arith))) (inner_same F G (a + 1) n (λ k less. same k (omega arith)))

-- each of the turns is inside one of those around
inner_before : (F : ℕ → List ℤ) (a n i : ℕ) (t : InnerTurn)
    → slice_get (inner_of F (range_with_len a n)) i ≡ Some t
    → t.outer < a + n
inner_before F a zero i t e = absurd (cc e)
inner_before F a (suc n) i t e =
    by (λ j there. inner_before F (a + 1) n j t there)
    (at_either (map (inner_at a) (F a)) (inner_of F (range_with_len (a + 1) n)) i t e)
  where
    own : (xs : List ℤ) (j : ℕ) → slice_get (map (inner_at a) xs) j ≡ Some t → t.outer ≡ a
    own [] j e = absurd (cc e)
    own (x ∷ xs) zero e = ap (λ (u : InnerTurn). u.outer) (some_once e refl)
    own (x ∷ xs) (suc j) e = own xs j e

    by : ((j : ℕ) → slice_get (inner_of F (range_with_len (a + 1) n)) j ≡ Some t → t.outer < a + 1 + n)
        → ((j : ℕ) × (slice_get (map (inner_at a) (F a)) j ≡ Some t))
        ⊎ ((j : ℕ) × (slice_get (inner_of F (range_with_len (a + 1) n)) j ≡ Some t))
        → t.outer < a + suc n
    by rest (inl (j, here)) = omega (arith, own (F a) j here)
    by rest (inr (j, there)) = omega (arith, rest j there)

pub inner_inside : (F : ℕ → List ℤ) (count : ℕ) (inner : List InnerTurn)
    → inner ≡ inner_of F (range_with_len 0 count)
    → AreInside count inner
inner_inside F count inner is i t e =
    omega (arith, inner_before F 0 count i t (subst (λ l. slice_get l i ≡ Some t) is e))

pub if_ok : {A E : Type 0} (r : Result A E) {P Q : A → Type 0} → ((x : A) → P x → Q x) → IfOk r P → IfOk r Q
if_ok (Ok x) f h = f x h
if_ok (Err e) f h = h

pub none_within : (F : ℕ → List ℤ) (a n : ℕ) → ((k : ℕ) → k < a + n → F k ≡ []) → inner_of F (range_with_len a n) ≡ []
none_within F a zero none = refl
none_within F a (suc n) none =
    ap₂ ◌++◌ (ap (map (inner_at a)) (none a (omega arith))) (none_within F (a + 1) n (λ k less. none k (omega arith)))

-- a loop has no turn where its last bound is below its first
pub no_turns : (lo hi : ℤ) → hi <ℤ lo → loop_turns (Some lo) (Some hi) ≡ []
no_turns lo hi less = ap (λ n. map (λ k. lo +ℤ pos k) (range_with_len 0 n)) (none (hi -ℤ lo +ℤ pos 1) refl)
  where
    none : (z : ℤ) → hi -ℤ lo +ℤ pos 1 ≡ z → at_least_0 z ≡ 0
    none (pos zero) e = refl
    none (pos (suc n)) e = absurd (omega (arith, ints))
    none (negsuc n) e = refl

-- rows of indices
at_map : {A : Type 0} (f : A → ℤ) (xs : List A) (k : ℕ) (x : A) → slice_get xs k ≡ Some x → at (map f xs) k ≡ f x
at_map f [] k x e = absurd (cc e)
at_map f (y ∷ xs) zero x e = let same : y ≡ x = cc e in ap f same
at_map f (y ∷ xs) (suc k) x e = at_map f xs k x e

row_is : (columns : List (List ℕ × List ℤ)) (index : List ℕ) (inner : List InnerTurn) (k : ℕ) (i : InnerTurn)
    → slice_get inner k ≡ Some i
    → row_at (inner_columns columns index inner) k ≡ row_at columns i.outer ++ (index, i.index) ∷ []
row_is [] index inner k i e = ap (λ z. (index, z) ∷ []) (at_map (λ (t : InnerTurn). t.index) inner k i e)
row_is (c ∷ columns) index inner k i e =
    ap₂ (λ z (rest : Indices). (c.0, z) ∷ rest) (at_map (λ (t : InnerTurn). at c.1 t.outer) inner k i e)
    (row_is columns index inner k i e)

map_by : {A B : Type 0} (F : ℕ → B) (G : A → B) (a : ℕ) (xs : List A)
    → ((k : ℕ) (x : A) → slice_get xs k ≡ Some x → F (a + k) ≡ G x)
    → map F (range_with_len a (length xs)) ≡ map G xs
map_by F G a [] each = refl
map_by F G a (x ∷ xs) each =
    let first : a + 0 ≡ a = omega arith in
    ap₂ (λ y ys. y ∷ ys) (ap F (sym first) ∙ each 0 x refl)
    (map_by F G (a + 1) xs (λ k y e. let next : a + 1 + k ≡ a + suc k = omega arith in ap F next ∙ each (suc k) y e))

module _ (columns : List (List ℕ × List ℤ)) (index : List ℕ) where
  abbrev Row : InnerTurn → Indices
  Row i = row_at columns i.outer ++ (index, i.index) ∷ []

  pub rows_are : (inner : List InnerTurn)
      → map (row_at (inner_columns columns index inner)) (range_with_len 0 (length inner)) ≡ map Row inner
  rows_are inner =
      map_by (row_at (inner_columns columns index inner)) Row 0 inner (λ k i e.
      let first : 0 + k ≡ k = omega arith in
      ap (row_at (inner_columns columns index inner)) first ∙ row_is columns index inner k i e)

  one_turn : (k : ℕ) (turns : List ℤ)
      → map Row (map (inner_at k) turns) ≡ map (λ turn. row_at columns k ++ (index, turn) ∷ []) turns
  one_turn k [] = refl
  one_turn k (t ∷ turns) = ap (λ (l : List Indices). (row_at columns k ++ (index, t) ∷ []) ∷ l) (one_turn k turns)

  module _ (lo hi : Manifest) where
    abbrev In : ℕ → List ℤ
    In k = loop_turns (manifest_value (row_at columns k) lo) (manifest_value (row_at columns k) hi)

    turns_are : (a n : ℕ)
        → map Row (inner_of In (range_with_len a n))
        ≡ turns_within (map (row_at columns) (range_with_len a n)) index lo hi
    turns_are a zero = refl
    turns_are a (suc n) =
        map-append Row (map (inner_at a) (In a)) (inner_of In (range_with_len (a + 1) n))
        ∙ ap₂ ◌++◌ (one_turn a (In a)) (turns_are (a + 1) n)

    pub within_is : (count n : ℕ) (made : List (List ℕ × List ℤ)) (inner : List InnerTurn)
        → inner ≡ inner_of In (range_with_len 0 count)
        → made ≡ inner_columns columns index inner
        → n ≡ length inner
        → map (row_at made) (range_with_len 0 n)
        ≡ turns_within (map (row_at columns) (range_with_len 0 count)) index lo hi
    within_is count n made inner is columns_are long =
        ap₂ (λ cs m. map (row_at cs) (range_with_len 0 m)) columns_are long ∙ rows_are inner ∙ ap (map Row) is
        ∙ turns_are 0 count

-- columns one behind the other
pub columns_more :
    (outer old new : List RustColumn) (i : ℕ) (x made : RustColumn) (index : List ℕ) (inner : List InnerTurn)
    (whole : List (List ℕ × List ℤ))
    → i < length outer
    → x ≡ get_or outer i x
    → new ≡ old ++ made ∷ []
    → view_column made ≡ (x.index.now, map (λ (t : InnerTurn). at x.values.items t.outer) inner)
    → view_columns old ++ inner_columns (view_columns (drop i outer)) index inner ≡ whole
    → view_columns new ++ inner_columns (view_columns (drop (i + 1) outer)) index inner ≡ whole
columns_more outer old new i x made index inner whole less is more column so_far =
    let rest = inner_columns (view_columns (drop (i + 1) outer)) index inner in
    ap (λ l. l ++ rest)
    (ap view_columns more ∙ map-append view_column old (made ∷ []) ∙ ap (λ c. view_columns old ++ c ∷ []) column)
    ∙ append_assoc (view_columns old) ((x.index.now, map (λ (t : InnerTurn). at x.values.items t.outer) inner) ∷ [])
    rest
    ∙ sym (ap (λ l. view_columns old ++ inner_columns (view_columns l) index inner) (drop_item outer i x less is))
    ∙ so_far

pub columns_end :
    (outer old new : List RustColumn) (i : ℕ) (made : RustColumn) (index : List ℕ) (inner : List InnerTurn)
    (whole : List (List ℕ × List ℤ))
    → length outer ≤ i
    → new ≡ old ++ made ∷ []
    → view_column made ≡ (index, map (λ (t : InnerTurn). t.index) inner)
    → view_columns old ++ inner_columns (view_columns (drop i outer)) index inner ≡ whole
    → view_columns new ≡ whole
columns_end outer old new i made index inner whole past more column so_far =
    ap view_columns more ∙ map-append view_column old (made ∷ []) ∙ ap (λ c. view_columns old ++ c ∷ []) column
    ∙ sym (ap (λ l. view_columns old ++ inner_columns (view_columns l) index inner) (drop_end outer i past)) ∙ so_far

-- so each column has a value in each turn
pub columns_full : (outer : List (List ℕ × List ℤ)) (index : List ℕ) (inner : List InnerTurn) (made : List RustColumn)
    → view_columns made ≡ inner_columns outer index inner
    → AreFull made (length inner)
columns_full outer index inner made is i c e = by outer made i is e
  where
    long : (F : InnerTurn → ℤ) (ts : List InnerTurn) → length (map F ts) ≡ length ts
    long F [] = refl
    long F (t ∷ ts) = ap suc (long F ts)

    by : (outer : List (List ℕ × List ℤ)) (made : List RustColumn) (i : ℕ)
        → view_columns made ≡ inner_columns outer index inner
        → slice_get made i ≡ Some c
        → length c.values.items ≡ length inner
    by outer [] i is e = absurd (cc e)
    by [] (m ∷ made) zero is e =
        let column : view_column m ≡ (index, map (λ (t : InnerTurn). t.index) inner) = cc is in
        ap (λ (d : RustColumn). length d.values.items) (some_once e refl)
        ∙ ap (λ (d : List ℕ × List ℤ). length d.1) column ∙ long (λ (t : InnerTurn). t.index) inner
    by [] (m ∷ []) (suc i) is e = absurd (cc e)
    by [] (m ∷ n ∷ made) (suc i) is e = absurd (cc is)
    by (o ∷ outer) (m ∷ made) zero is e =
        let column : view_column m ≡ (o.0, map (λ (t : InnerTurn). at o.1 t.outer) inner) = cc is in
        ap (λ (d : RustColumn). length d.values.items) (some_once e refl)
        ∙ ap (λ (d : List ℕ × List ℤ). length d.1) column ∙ long (λ (t : InnerTurn). at o.1 t.outer) inner
    by (o ∷ outer) (m ∷ made) (suc i) is e =
        let rest : view_columns made ≡ inner_columns outer index inner = cc is in
        by outer made i rest e
