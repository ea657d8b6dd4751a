-- How facts are put into elements, one after another.
use Rattle.std.proofs.Common.{◌≡◌, refl, sym, ◌∙◌, ap, ap₂, append_assoc, zero-add, arith, ℕ, zero, suc, ◌+◌, ◌-◌, ◌<◌}
use Rattle.std.proofs.Common.{◌≤◌, ◌⊎◌, ◌++◌, inl, inr, true, false, List, [], ◌∷◌, map, length, drop, take, get_or}
use Rattle.std.proofs.Common.{Some, Result, Ok, Err, OnOk, slice_get, ℤ}
use Rattle.std.specs.Prelude.{nat_eq, slice_set}
use Rattle.std.proofs.lemmas.Bool.Decides.{eqb_tells, leb_tells}
use Rattle.std.proofs.lemmas.List.FromFn.{map-range_with_len_more}
use Rattle.std.proofs.lemmas.List.{map-append}
use Rattle.std.proofs.lemmas.List.Sums.{sum_by-cons}
use Rattle.std.proofs.lemmas.Option.{slice_get_within}
use Rattle.std.specs.List.{range_with_len}
use Rattle.lists.proofs.Places.{drop_end}
use Rattle.element_rules.specs.ElementRules.{elements_of}
use Rattle.lists.proofs.Ranges.{range_next}
use Rattle.silage_syntax.specs.declared.tree.Decl.{Decl}
use Rattle.silage_syntax.specs.Names.{element_count}
use Rattle.type_rules.specs.TypedTree as typed
use Rattle.signal_graph.specs.Flat as flat
use Rattle.signal_graph.specs.Expressions.{parts_of, view_exprs}
use Rattle.type_rules.specs.declared.typed.TypedConst.{TypedConst}
use Rattle.type_rules.specs.declared.typed.TypedExpr.{TypedExpr}
use Rattle.element_rules.specs.declared.elements.Instance.{Instance}
use Rattle.signal_graph.specs.declared.flat.FlatElem.{FlatElem}
use Rattle.signal_graph.specs.declared.flat.FlatExpr.{FlatExpr}
use Rattle.silage_syntax.specs.Manifests.{Indices}
use Rattle.loop_expand.specs.Private.Elements.{view_elems, inserted, changed, with_fact, with_facts, Puts}
use Rattle.loop_expand.specs.Private.Facts.{Fact, joined, zipped, flat_of, flat_parts, facts_in, facts_from}
use Rattle.loop_expand.specs.Private.Groups.{Group, groups_of}
use Rattle.loop_expand.specs.Private.Rows.{parts_after, typed_exprs}
use Rattle.loop_expand.specs.Private.Scopes.{Signal, Body, Scope, signals_from, body_for, body_of, body_at}
use Rattle.loop_expand.specs.Private.Sizes.{decls_of}
use Rattle.loop_expand.proofs.FactsPut.{facts_length, Lt, lt_tells}

pub facts-append : (fs gs : List Fact) (xs : List flat.Element)
    → with_facts (fs ++ gs) xs ≡ with_facts gs (with_facts fs xs)
facts-append [] gs xs = refl
facts-append (f ∷ fs) gs xs = facts-append fs gs (with_fact f xs)

-- facts in a row, each for a number
pub next_fact : (F : ℕ → Fact) (count k : ℕ) (xs ys whole : List flat.Element)
    → k < count
    → ys ≡ with_fact (F k) xs
    → with_facts (map F (range_with_len (0 + k) (count - k))) xs ≡ whole
    → with_facts (map F (range_with_len (0 + (k + 1)) (count - (k + 1)))) ys ≡ whole
next_fact F count k xs ys whole less step so_far =
    let first : 0 + k ≡ k = omega arith in
    ap (with_facts (map F (range_with_len (0 + (k + 1)) (count - (k + 1)))))
    (step ∙ ap (λ (n : ℕ). with_fact (F n) xs) (sym first))
    ∙ sym (ap (λ (ns : List ℕ). with_facts (map F ns) xs) (range_next 0 k count less)) ∙ so_far

-- a range has no number left at its end
pub range_end : (k count : ℕ) → count ≤ k → range_with_len (0 + k) (count - k) ≡ []
range_end k count past = let none : count - k ≡ 0 = omega arith in rw none refl

-- the facts of things in a row, each for a number
pub next_joined : {A : Type 0} (F : A → List Fact) (G : ℕ → A) (count k : ℕ) (xs ys whole : List flat.Element)
    → k < count
    → ys ≡ with_facts (F (G k)) xs
    → with_facts (joined F (map G (range_with_len (0 + k) (count - k)))) xs ≡ whole
    → with_facts (joined F (map G (range_with_len (0 + (k + 1)) (count - (k + 1))))) ys ≡ whole
next_joined F G count k xs ys whole less step so_far =
    let first : 0 + k ≡ k = omega arith in
    let rest = joined F (map G (range_with_len (0 + (k + 1)) (count - (k + 1)))) in
    ap (with_facts rest) (step ∙ ap (λ (n : ℕ). with_facts (F (G n)) xs) (sym first))
    ∙ sym (facts-append (F (G (0 + k))) rest xs)
    ∙ sym (ap (λ (ns : List ℕ). with_facts (joined F (map G ns)) xs) (range_next 0 k count less)) ∙ so_far

-- A change of the element at a number.
pub changed_at : (F : flat.Element → flat.Element) (n : ℕ) (xs : List FlatElem) (x y : FlatElem)
    → n < length xs
    → flat.view_elem y ≡ F (flat.view_elem (get_or xs n x))
    → view_elems (slice_set xs n y) ≡ changed F n (view_elems xs)
changed_at F n [] x y less is = absurd (omega arith)
changed_at F zero (z ∷ xs) x y less is = ap (λ (e : flat.Element). e ∷ view_elems xs) is
changed_at F (suc n) (z ∷ xs) x y less is =
    ap (λ (es : List flat.Element). flat.view_elem z ∷ es) (changed_at F n xs x y (omega arith) is)

-- Initial values: one is put behind those before it.
pub present : (sample k : ℕ) (word : ℤ) (is : List (ℕ × ℤ)) (x : ℕ × ℤ)
    → slice_get is k ≡ Some x
    → x.0 ≡ sample
    → take k is ++ inserted sample word (drop k is) ≡ is
present sample k word [] x e same = absurd (cc e)
present sample zero word (i ∷ is) x e same = by (lt_tells i.0 sample) (eqb_tells i.0 sample)
  where
    here : i.0 ≡ sample
    here = let it : i ≡ x = cc e in ap (λ (j : ℕ × ℤ). j.0) it ∙ same

    by : Lt i.0 sample
        → ((nat_eq i.0 sample ≡ true) × (i.0 ≡ sample)) ⊎ ((nat_eq i.0 sample ≡ false) × (i.0 ≡ sample → ⊥))
        → inserted sample word (i ∷ is) ≡ i ∷ is
    by (inl l) g = let less = l.1 in absurd (omega (arith, here))
    by (inr l) (inl g) = rw (l.0, g.0) refl
    by (inr l) (inr g) = absurd (g.1 here)
present sample (suc k) word (i ∷ is) x e same = ap (λ (js : List (ℕ × ℤ)). i ∷ js) (present sample k word is x e same)

pub absent : (sample k : ℕ) (word : ℤ) (is : List (ℕ × ℤ))
    → ((x : ℕ × ℤ) → slice_get is k ≡ Some x → sample < x.0)
    → take k is ++ inserted sample word (drop k is) ≡ take k is ++ (sample, word) ∷ drop k is
absent sample k word [] above = in_none k
  where
    in_none : (k : ℕ) → take k [] ++ inserted sample word (drop k []) ≡ take k [] ++ (sample, word) ∷ drop k []
    in_none zero = refl
    in_none (suc k) = refl
absent sample zero word (i ∷ is) above = by (lt_tells i.0 sample) (eqb_tells i.0 sample)
  where
    over : sample < i.0
    over = above i refl

    by : Lt i.0 sample
        → ((nat_eq i.0 sample ≡ true) × (i.0 ≡ sample)) ⊎ ((nat_eq i.0 sample ≡ false) × (i.0 ≡ sample → ⊥))
        → inserted sample word (i ∷ is) ≡ (sample, word) ∷ i ∷ is
    by (inl l) g = let less = l.1 in absurd (omega (arith, over))
    by (inr l) (inl g) = let same = g.1 in absurd (omega (arith, over))
    by (inr l) (inr g) = rw (l.0, g.0) refl
absent sample (suc k) word (i ∷ is) above = ap (λ (js : List (ℕ × ℤ)). i ∷ js) (absent sample k word is above)

-- Parts behind others.
pub parts_more : (xs : List flat.Expr) (y : flat.Expr) (rest : flat.Parts)
    → parts_after (xs ++ y ∷ []) rest ≡ parts_after xs (flat.part y rest)
parts_more [] y rest = refl
parts_more (x ∷ xs) y rest = ap (flat.part x) (parts_more xs y rest)

pub parts_end : (xs : List flat.Expr) → parts_after xs flat.no_part ≡ parts_of xs
parts_end [] = refl
parts_end (x ∷ xs) = ap (flat.part x) (parts_end xs)

-- Signals of declarations one behind the other.
pub signals-append : (n : ℕ) (ds es : List Decl)
    → signals_from n (ds ++ es) ≡ signals_from n ds ++ signals_from (n + elements_of ds) es
signals-append n [] es = ap (λ (m : ℕ). signals_from m es) (omega arith)
signals-append n (d ∷ ds) es =
    let sum = sum_by-cons (λ (d : Decl). element_count d.dims) d ds in
    let next : n + element_count d.dims + elements_of ds ≡ n + elements_of (d ∷ ds) = omega arith in
    ap (λ (ss : List Signal). record { decl = d; first = n } ∷ ss)
    (signals-append (n + element_count d.dims) ds es
    ∙ ap (λ (m : ℕ). signals_from (n + element_count d.dims) ds ++ signals_from m es) next)

pub on_ok : {A E : Type 0} (r : Result A E) {P Q : Type 0} → (P → Q) → OnOk r P → OnOk r Q
on_ok (Ok x) f h = f h
on_ok (Err e) f h = h

-- facts behind others
pub puts_then : (fs gs : List Fact) (old mid new : List FlatElem)
    → Puts fs old mid
    → Puts gs mid new
    → Puts (fs ++ gs) old new
puts_then fs gs old mid new a b = b ∙ ap (with_facts gs) a ∙ sym (facts-append fs gs (view_elems old))

elements-append : (ds es : List Decl) → elements_of (ds ++ es) ≡ elements_of ds + elements_of es
elements-append [] es = sym (zero-add (elements_of es))
elements-append (d ∷ ds) es =
    let all = sum_by-cons (λ (d : Decl). element_count d.dims) d (ds ++ es) in
    let some = sum_by-cons (λ (d : Decl). element_count d.dims) d ds in
    let rest = elements-append ds es in
    omega arith

abbrev body : typed.TypedFunc → List Signal → List Signal → ℕ → List Group → Body
body f signals results size groups =
    record { of = f; signals = signals; results = results; size = size; groups = groups }

body_same : (f : typed.TypedFunc) (a b r s : List Signal) (m n : ℕ) (gs hs : List Group)
    → a ≡ b
    → r ≡ s
    → m ≡ n
    → gs ≡ hs
    → body f a r m gs ≡ body f b s n hs
body_same f a b r s m n gs hs e g h i = cc

-- the signals of a function: parameters, then results, then locals
pub body_made : (f : typed.TypedFunc) (none a b c r : List Signal) (first next size : ℕ) (groups : List Group)
    → none ≡ []
    → a ≡ none ++ signals_from 0 f.params
    → first ≡ 0 + elements_of f.params
    → r ≡ none ++ signals_from first f.results
    → b ≡ a ++ signals_from first f.results
    → next ≡ first + elements_of f.results
    → c ≡ b ++ signals_from next f.locals
    → size ≡ next + elements_of f.locals
    → groups ≡ groups_of f.items
    → body f c r size groups ≡ body_for f
body_made f none a b c r first next size groups empty is_a is_first is_r is_b is_next is_c is_size known =
    let start : first ≡ elements_of f.params = omega arith in
    let sum = elements-append f.params (f.results ++ f.locals) in
    let rest = elements-append f.results f.locals in
    body_same f c (signals_from 0 (decls_of f)) r (signals_from (elements_of f.params) f.results) size
    (elements_of (decls_of f)) groups (groups_of f.items)
    (is_c
    ∙ ap₂ (λ (xs : List Signal) (m : ℕ). xs ++ signals_from m f.locals)
    (is_b
    ∙ ap₂ (λ (xs : List Signal) (m : ℕ). xs ++ signals_from m f.results)
    (is_a ∙ ap (λ (xs : List Signal). xs ++ signals_from 0 f.params) empty) is_first)
    (is_next ∙ ap (λ (m : ℕ). m + elements_of f.results) is_first)
    ∙ append_assoc (signals_from 0 f.params) (signals_from (0 + elements_of f.params) f.results)
    (signals_from (0 + elements_of f.params + elements_of f.results) f.locals)
    ∙ ap (λ (xs : List Signal). signals_from 0 f.params ++ xs)
    (sym (signals-append (0 + elements_of f.params) f.results f.locals))
    ∙ sym (signals-append 0 f.params (f.results ++ f.locals)))
    (is_r ∙ ap₂ (λ (xs : List Signal) (m : ℕ). xs ++ signals_from m f.results) empty start)
    (omega arith) known

-- An item of a list, and what is behind it.
pub drop_item : {A : Type 0} (xs : List A) (i : ℕ) (x : A)
    → i < length xs
    → x ≡ get_or xs i x
    → drop i xs ≡ x ∷ drop (i + 1) xs
drop_item [] i x less e = absurd (omega arith)
drop_item {A} (y ∷ xs) zero x less e = ap (λ (z : A). z ∷ xs) (sym e)
drop_item (y ∷ xs) (suc i) x less e =
    let next : suc i + 1 ≡ suc (i + 1) = omega arith in
    drop_item xs i x (omega arith) e ∙ ap (λ (n : ℕ). x ∷ drop n (y ∷ xs)) (sym next)

-- an item of a list stands in what is made of each
pub item_at : {A B : Type 0} (F : A → B) (xs : List A) (i : ℕ) (x : A)
    → i < length xs
    → x ≡ get_or xs i x
    → slice_get (map F xs) i ≡ Some (F x)
item_at F [] i x less e = absurd (omega arith)
item_at F (y ∷ xs) zero x less e = ap (λ z. Some (F z)) (sym e)
item_at F (y ∷ xs) (suc i) x less e = item_at F xs i x (omega arith) e

pub map_long : {A B : Type 0} (F : A → B) (xs : List A) → length (map F xs) ≡ length xs
map_long F [] = refl
map_long F (x ∷ xs) = ap suc (map_long F xs)

-- facts leave how many elements there are
pub as_many : (fs gs : List Fact) (xs ys : List FlatElem)
    → with_facts fs (view_elems xs) ≡ with_facts gs (view_elems ys)
    → length xs ≡ length ys
as_many fs gs xs ys e =
    sym (facts_length fs (view_elems xs) ∙ map_long flat.view_elem xs) ∙ ap length e ∙ facts_length gs (view_elems ys)
    ∙ map_long flat.view_elem ys

pub facts_as_many : (F : ℕ → Fact) (count k : ℕ) (xs ys : List FlatElem)
    → with_facts (map F (range_with_len (0 + k) (count - k))) (view_elems xs)
    ≡ with_facts (map F (range_with_len 0 count)) (view_elems ys)
    → length xs ≡ length ys
facts_as_many F count k xs ys e =
    as_many (map F (range_with_len (0 + k) (count - k))) (map F (range_with_len 0 count)) xs ys e

pub puts_as_many : (fs : List Fact) (old new : List FlatElem) → Puts fs old new → length new ≡ length old
puts_as_many fs old new puts = as_many [] fs new old puts

item_is : {A : Type 0} (xs : List A) (k : ℕ) (x d : A) → slice_get xs k ≡ Some x → d ≡ get_or xs k d → d ≡ x
item_is [] k x d e is = absurd (cc e)
item_is (y ∷ xs) zero x d e is = let same : y ≡ x = cc e in is ∙ same
item_is (y ∷ xs) (suc k) x d e is = item_is xs k x d e is

pub above_by : (xs : List (ℕ × ℤ)) (k sample : ℕ) (d : ℕ × ℤ)
    → d ≡ get_or xs k d
    → (d.0 ≡ sample → ⊥)
    → ((x : ℕ × ℤ) → slice_get xs k ≡ Some x → sample ≤ x.0)
    → (x : ℕ × ℤ)
    → slice_get xs k ≡ Some x
    → sample < x.0
above_by xs k sample d is other least x e =
    let same : d.0 ≡ x.0 = ap (λ (i : ℕ × ℤ). i.0) (item_is xs k x d e is) in
    let low = least x e in
    elim (leb_tells (suc sample) x.0)
    [ inl h ↦ (let less = h.1 in omega arith) | inr h ↦ (let more = h.1 in absurd (other (omega arith))) ]

pub none_by : (xs : List (ℕ × ℤ)) (k sample : ℕ) → length xs ≤ k → (x : ℕ × ℤ) → slice_get xs k ≡ Some x → sample < x.0
none_by xs k sample past x e = let less = slice_get_within xs k x e in absurd (omega arith)

pub insert_is : (sample k : ℕ) (word : ℤ) (inits items made : List (ℕ × ℤ))
    → items ≡ inits
    → inserted sample word items ≡ take k items ++ inserted sample word (drop k items)
    → ((x : ℕ × ℤ) → slice_get items k ≡ Some x → sample < x.0)
    → made ≡ take k items ++ (sample, word) ∷ drop k items
    → made ≡ inserted sample word inits
insert_is sample k word inits items made same before above is =
    is ∙ sym (absent sample k word items above) ∙ sym before ∙ ap (inserted sample word) same

-- Parts that are made one behind the other.
module _ (c : Scope) (indices : Indices) (parts : List TypedExpr) (whole : flat.Parts) where
  pub flats_more : (flats new : List FlatExpr) (y : FlatExpr) (i : ℕ) (x : TypedExpr)
      → i < length parts
      → x ≡ get_or parts i x
      → flat.view_expr y ≡ flat_of c indices (typed.view_expr x)
      → new ≡ flats ++ y ∷ []
      → parts_after (map flat.view_expr flats) (flat_parts c indices (typed_exprs (drop i parts))) ≡ whole
      → parts_after (map flat.view_expr new) (flat_parts c indices (typed_exprs (drop (i + 1) parts))) ≡ whole
  flats_more flats new y i x less is made more so_far =
      let rest = flat_parts c indices (typed_exprs (drop (i + 1) parts)) in
      ap (λ (ys : List flat.Expr). parts_after ys rest)
      (ap (map flat.view_expr) more ∙ map-append flat.view_expr flats (y ∷ []))
      ∙ parts_more (map flat.view_expr flats) (flat.view_expr y) rest
      ∙ ap (λ (z : flat.Expr). parts_after (map flat.view_expr flats) (flat.part z rest)) made
      ∙ sym (ap
      (λ (xs : List TypedExpr). parts_after (map flat.view_expr flats) (flat_parts c indices (typed_exprs xs)))
      (drop_item parts i x less is))
      ∙ so_far

  pub flats_end : (flats : List FlatExpr) (i : ℕ)
      → length parts ≤ i
      → parts_after (map flat.view_expr flats) (flat_parts c indices (typed_exprs (drop i parts))) ≡ whole
      → view_exprs flats ≡ whole
  flats_end flats i past so_far =
      sym (parts_end (map flat.view_expr flats))
      ∙ sym (ap
      (λ (xs : List TypedExpr). parts_after (map flat.view_expr flats) (flat_parts c indices (typed_exprs xs)))
      (drop_end parts i past))
      ∙ so_far

-- The facts of things one behind the other.
module _ {A B : Type 0} (F : B → List Fact) (V : A → B) (xs : List A) where
  pub joined_more : (i : ℕ) (x : A) (old new : List FlatElem) (whole : List flat.Element)
      → i < length xs
      → x ≡ get_or xs i x
      → Puts (F (V x)) old new
      → with_facts (joined F (map V (drop i xs))) (view_elems old) ≡ whole
      → with_facts (joined F (map V (drop (i + 1) xs))) (view_elems new) ≡ whole
  joined_more i x old new whole less is puts so_far =
      let rest = joined F (map V (drop (i + 1) xs)) in
      ap (with_facts rest) puts ∙ sym (facts-append (F (V x)) rest (view_elems old))
      ∙ sym (ap (λ (ys : List A). with_facts (joined F (map V ys)) (view_elems old)) (drop_item xs i x less is))
      ∙ so_far

  pub joined_as_many : (i : ℕ) (elems old : List FlatElem)
      → with_facts (joined F (map V (drop i xs))) (view_elems elems) ≡ with_facts (joined F (map V xs)) (view_elems old)
      → length elems ≡ length old
  joined_as_many i elems old e = as_many (joined F (map V (drop i xs))) (joined F (map V xs)) elems old e

  pub joined_end : (i : ℕ) (elems : List FlatElem) (whole : List flat.Element)
      → length xs ≤ i
      → with_facts (joined F (map V (drop i xs))) (view_elems elems) ≡ whole
      → view_elems elems ≡ whole
  joined_end i elems whole past so_far =
      sym (ap (λ (ys : List A). with_facts (joined F (map V ys)) (view_elems elems)) (drop_end xs i past)) ∙ so_far

-- The facts of pairs, one behind the other.
module _ {A B C D : Type 0} (F : C → D → List Fact) (V : A → C) (W : B → D) (xs : List A) (ys : List B) where
  pub zipped_more : (k : ℕ) (x : A) (y : B) (old new : List FlatElem) (whole : List flat.Element)
      → k < length xs
      → k < length ys
      → x ≡ get_or xs k x
      → y ≡ get_or ys k y
      → Puts (F (V x) (W y)) old new
      → with_facts (zipped F (map V (drop k xs)) (map W (drop k ys))) (view_elems old) ≡ whole
      → with_facts (zipped F (map V (drop (k + 1) xs)) (map W (drop (k + 1) ys))) (view_elems new) ≡ whole
  zipped_more k x y old new whole less within is_x is_y puts so_far =
      let rest = zipped F (map V (drop (k + 1) xs)) (map W (drop (k + 1) ys)) in
      ap (with_facts rest) puts ∙ sym (facts-append (F (V x) (W y)) rest (view_elems old))
      ∙ sym (ap₂ (λ (us : List A) (vs : List B). with_facts (zipped F (map V us) (map W vs)) (view_elems old))
      (drop_item xs k x less is_x) (drop_item ys k y within is_y))
      ∙ so_far

  pub zipped_as_many : (k : ℕ) (elems old : List FlatElem)
      → with_facts (zipped F (map V (drop k xs)) (map W (drop k ys))) (view_elems elems)
      ≡ with_facts (zipped F (map V xs) (map W ys)) (view_elems old)
      → length elems ≡ length old
  zipped_as_many k elems old e =
      as_many (zipped F (map V (drop k xs)) (map W (drop k ys))) (zipped F (map V xs) (map W ys)) elems old e

  pub zipped_end : (k : ℕ) (elems : List FlatElem) (whole : List flat.Element)
      → length ys ≤ k
      → with_facts (zipped F (map V (drop k xs)) (map W (drop k ys))) (view_elems elems) ≡ whole
      → view_elems elems ≡ whole
  zipped_end k elems whole past so_far =
      sym (ap (λ (fs : List Fact). with_facts fs (view_elems elems))
      (ap (λ (vs : List B). zipped F (map V (drop k xs)) (map W vs)) (drop_end ys k past)
      ∙ none (map V (drop k xs)))) ∙ so_far
    where
      none : (us : List C) → zipped F us [] ≡ []
      none [] = refl
      none (u ∷ us) = refl

-- Instances one behind the other.
next_there : {A : Type 0} (xs : List A) (n : ℕ)
    → n < length xs
    → (x : A) × (slice_get xs n ≡ Some x) × (drop n xs ≡ x ∷ drop (n + 1) xs)
next_there [] n less = absurd (omega arith)
next_there (x ∷ xs) zero less = (x, refl, refl)
next_there (x ∷ xs) (suc n) less =
    let (y, there, next) = next_there xs n (omega arith) in
    let more : suc n + 1 ≡ suc (n + 1) = omega arith in
    (y, there, next ∙ ap (λ m. y ∷ drop m (x ∷ xs)) (sym more))

pub instances_more :
    (tables : List TypedConst) (bodies : List Body) (is : List Instance) (firsts : List ℕ) (n : ℕ)
    (old new : List FlatElem) (whole : List flat.Element)
    → n < length is
    → Puts (facts_in tables bodies is firsts n (body_at bodies (slice_get is n))) old new
    → with_facts (facts_from tables bodies is firsts n (drop n is)) (view_elems old) ≡ whole
    → with_facts (facts_from tables bodies is firsts (n + 1) (drop (n + 1) is)) (view_elems new) ≡ whole
instances_more tables bodies is firsts n old new whole less puts so_far =
    let (x, there, next) = next_there is n less in
    let own = facts_in tables bodies is firsts n (body_of bodies x.func) in
    let rest = facts_from tables bodies is firsts (n + 1) (drop (n + 1) is) in
    let put : view_elems new ≡ with_facts own (view_elems old) =
    puts ∙ ap (λ o. with_facts (facts_in tables bodies is firsts n (body_at bodies o)) (view_elems old)) there in
    ap (with_facts rest) put ∙ sym (facts-append own rest (view_elems old))
    ∙ sym (ap (λ (ys : List Instance). with_facts (facts_from tables bodies is firsts n ys) (view_elems old)) next)
    ∙ so_far
