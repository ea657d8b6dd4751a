-- The nodes that are made place after place are the program's.
use Rattle.std.proofs.Common.{◌≡◌, ℕ, ◌+◌, ◌<◌, ◌≤◌, ◌⊎◌, inl, inr, Bool, true, false, cond, List, [], ◌∷◌, ◌++◌}
use Rattle.std.proofs.Common.{Option, Some, None, refl, sym, ap, ap₂, subst, ◌∙◌, arith}
use Rattle.std.specs.Prelude.{ℤ, ◌==◌, ◌&&◌, is_none, find, filter, if◌then◌else◌}
use Rattle.std.specs.Option.{option_or}
use Rattle.std.specs.List.{position_from, flat_map, enumerate_from}
use Rattle.std.proofs.lemmas.Bool.{eqb-true, eq-eqb}
use Rattle.std.proofs.lemmas.Bool.Decides.{Decides-int_eq}
use Rattle.std.proofs.lemmas.List.{append-nil}
use Rattle.std.proofs.lemmas.List.Elements.{filter-append}
use Rattle.std.proofs.lemmas.List.Folds.{find-append}
use mathlib.Core.List.{append_assoc}
use Rattle.signal_graph.specs.Flat.{Program, Element}
use Rattle.signal_graph.specs.GraphOf.{Made, nothing, constant, input, operation, Site, sites_from, made_by_body}
use Rattle.signal_graph.specs.GraphOf.{element_sites, sites, word_node, is_constant, is_target, is_place, is_made_at}
use Rattle.signal_graph.specs.GraphOf.{node_sites}
use Rattle.signal_graph.specs.Rules.{width_of}
use Rattle.flow_graph.specs.Private.Nodes.{word_position, is_made_after, with_site, nodes_from, nodes_of}
use Rattle.flow_graph.proofs.Positions.{as_from}

-- the place stands before place k of element e, or not
abbrev pub IsBelow : Site → (e k : ℕ) → Type 0
IsBelow t e k = (t.element < e) ⊎ ((t.element ≡ e) × (t.place < k))

abbrev pub IsFrom : (e k : ℕ) → Site → Type 0
IsFrom e k s = (e < s.element) ⊎ ((e ≡ s.element) × (k ≤ s.place))

abbrev pub AreBelow : List Site → (e k : ℕ) → Type 0
AreBelow [] e k = Unit {0}
AreBelow (t ∷ ts) e k = IsBelow t e k × AreBelow ts e k

-- the places rise from place k of element e
abbrev pub AreRising : (e k : ℕ) → List Site → Type 0
AreRising e k [] = Unit {0}
AreRising e k (s ∷ rest) = IsFrom e k s × AreRising s.element (s.place + 1) rest

pub below_more : (t s : Site) (e k : ℕ) → IsBelow t e k → IsFrom e k s → IsBelow t s.element (s.place + 1)
below_more t s e k (inl a) (inl b) = inl (omega arith)
below_more t s e k (inl a) (inr b) = inl (let same = b.0 in omega arith)
below_more t s e k (inr a) (inl b) = inl (let same = a.0 in omega arith)
below_more t s e k (inr a) (inr b) = inr (a.0 ∙ b.0, let p = a.1 in let q = b.1 in omega arith)

pub all_below : (ts : List Site) (s : Site) (e k : ℕ)
    → AreBelow ts e k
    → IsFrom e k s
    → AreBelow (ts ++ s ∷ []) s.element (s.place + 1)
all_below [] s e k h from = (inr (refl, omega arith), tt {0})
all_below (t ∷ ts) s e k h from = (below_more t s e k h.0 from, all_below ts s e k h.1 from)

-- a place before it is another one
apart : (t s : Site) (e k : ℕ) → IsBelow t e k → IsFrom e k s → is_place s (Some t) ≡ false
apart t s e k a b = by (s.element == t.element) (s.place == t.place) refl refl
  where
    none : s.element ≡ t.element → s.place ≡ t.place → ⊥
    none x y = elim a [
      | inl p ↦ elim b [ inl q ↦ omega arith | inr q ↦ (let r = q.0 in omega arith) ]
      | inr p ↦ elim b [ inl q ↦ (let r = p.0 in omega arith) | inr q ↦ (let r = p.1 in let u = q.1 in omega arith) ]
    ]

    by : (x y : Bool)
        → (s.element == t.element) ≡ x
        → (s.place == t.place) ≡ y
        → ((s.element == t.element) && (s.place == t.place)) ≡ false
    by true true e f = absurd (none (eqb-true s.element t.element e) (eqb-true s.place t.place f))
    by true false e f = ap₂ (λ (x y : Bool). x && y) e f
    by false y e f = ap (λ (x : Bool). x && (s.place == t.place)) e

itself : (s : Site) → is_place s (Some s) ≡ true
itself s = ap₂ (λ (x y : Bool). x && y) (eq-eqb s.element s.element refl) (eq-eqb s.place s.place refl)

-- what a search finds
module _ (p : Site → Bool) where
  found_below : (xs : List Site) (t : Site) (e k : ℕ) → AreBelow xs e k → find p xs ≡ Some t → IsBelow t e k
  found_below [] t e k h f = absurd (cc)
  found_below (x ∷ xs) t e k h f = by (p x) f (λ g. found_below xs t e k h.1 g)
    where
      by : (b : Bool) → cond b (Some x) (find p xs) ≡ Some t → (find p xs ≡ Some t → IsBelow t e k) → IsBelow t e k
      by true g ih = let same : x ≡ t = cc in subst (λ (y : Site). IsBelow y e k) same h.0
      by false g ih = ih g

  found_passes : (xs : List Site) (t : Site) → find p xs ≡ Some t → p t ≡ true
  found_passes [] t f = absurd (cc)
  found_passes (x ∷ xs) t f = by (p x) refl f (λ g. found_passes xs t g)
    where
      by : (b : Bool) → p x ≡ b → cond b (Some x) (find p xs) ≡ Some t → (find p xs ≡ Some t → p t ≡ true) → p t ≡ true
      by true is g ih = let same : x ≡ t = cc in subst (λ (y : Site). p y ≡ true) same is
      by false is g ih = ih g

  module _ (q : Site → Bool) where
    none_from : (n : ℕ) (xs : List Site) → find p xs ≡ None → position_from p n (filter q xs) ≡ None
    none_from n [] f = refl
    none_from n (x ∷ xs) f = by (p x) (q x) refl f (λ k g. none_from k xs g)
      where
        by : (b c : Bool)
            → p x ≡ b
            → cond b (Some x) (find p xs) ≡ None
            → ((k : ℕ) → find p xs ≡ None → position_from p k (filter q xs) ≡ None)
            → position_from p n (cond c (x ∷ filter q xs) (filter q xs)) ≡ None
        by true c is g ih = absurd (cc)
        by false false is g ih = ih n g
        by false true is g ih =
            ap (λ (b : Bool). cond {A = Option ℕ} b (Some n) (position_from p (n + 1) (filter q xs))) is ∙ ih (n + 1) g

    some_from : (n : ℕ) (xs : List Site) (t : Site)
        → find p xs ≡ Some t
        → q t ≡ true
        → is_none (position_from p n (filter q xs)) ≡ false
    some_from n [] t f h = absurd (cc)
    some_from n (x ∷ xs) t f h = by (p x) (q x) refl refl f (λ k g. some_from k xs t g h)
      where
        by : (b c : Bool)
            → p x ≡ b
            → q x ≡ c
            → cond b (Some x) (find p xs) ≡ Some t
            → ((k : ℕ) → find p xs ≡ Some t → is_none (position_from p k (filter q xs)) ≡ false)
            → is_none (position_from p n (cond c (x ∷ filter q xs) (filter q xs))) ≡ false
        by true false is keeps g ih = absurd (let same : x ≡ t = cc in let also : q x ≡ true = ap q same ∙ h in cc)
        by true true is keeps g ih =
            ap (λ (b : Bool). is_none (cond {A = Option ℕ} b (Some n) (position_from p (n + 1) (filter q xs)))) is
        by false false is keeps g ih = ih n g
        by false true is keeps g ih =
            ap (λ (b : Bool). is_none (cond {A = Option ℕ} b (Some n) (position_from p (n + 1) (filter q xs)))) is
            ∙ ih (n + 1) g

module _ (p : Program) where
  abbrev made : Site → Bool
  made s = is_made_at p s s.made

  module _ (xs rest : List Site) (s : Site) (split : sites p ≡ xs ++ s ∷ rest) (e k : ℕ) (below : AreBelow xs e k)
      (from : IsFrom e k s) where
    first_word : (m : ℤ)
        → s.made ≡ constant m
        → (o : Option Site)
        → find (is_target (word_node m)) xs ≡ o
        → is_none (word_position m (filter made xs)) ≡ is_place s (find (is_target (word_node m)) (sites p))
    first_word m is None f =
        let p_m = is_target (word_node m) in
        let here : p_m s ≡ true = ap (is_constant m) is ∙ (Decides-int_eq m m).1 refl in
        let found : find p_m (sites p) ≡ Some s =
        ap (find p_m) split ∙ find-append p_m xs (s ∷ rest)
        ∙ ap (λ (o : Option Site). option_or o (find p_m (s ∷ rest))) f
        ∙ ap (λ (b : Bool). cond b (Some s) (find p_m rest)) here in
        ap (λ (o : Option ℕ). is_none o) (as_from p_m (filter made xs) ∙ none_from p_m made 0 xs f)
        ∙ sym (ap (is_place s) found ∙ itself s)
    first_word m is (Some t) f =
        let p_m = is_target (word_node m) in
        let found : find p_m (sites p) ≡ Some t =
        ap (find p_m) split ∙ find-append p_m xs (s ∷ rest)
        ∙ ap (λ (o : Option Site). option_or o (find p_m (s ∷ rest))) f in
        let kept : made t ≡ true = of_word t.made refl (found_passes p_m xs t f) found in
        ap (λ (o : Option ℕ). is_none o) (as_from p_m (filter made xs)) ∙ some_from p_m made 0 xs t f kept
        ∙ sym (ap (is_place s) found ∙ apart t s e k (found_below p_m xs t e k below f) from)
      where
        of_word : (w : Made)
            → t.made ≡ w
            → is_constant m w ≡ true
            → find (is_target (word_node m)) (sites p) ≡ Some t
            → is_made_at p t w ≡ true
        of_word (constant j) here same found =
            let eq : m ≡ j = (Decides-int_eq m j).0 same in
            ap (λ (i : ℤ). is_place t (find (is_target (word_node i)) (sites p))) (sym eq) ∙ ap (is_place t) found
            ∙ itself t
        of_word nothing here same found = absurd (cc)
        of_word (input j) here same found = absurd (cc)
        of_word (operation o fmt operands) here same found = absurd (cc)

    same_test : (w : Made) → s.made ≡ w → is_made_after (filter made xs) w ≡ is_made_at p s w
    same_test nothing is = refl
    same_test (constant m) is = first_word m is (find (is_target (word_node m)) xs) refl
    same_test (input j) is = refl
    same_test (operation o fmt operands) is = refl

    one_site : with_site (filter made xs) s ≡ filter made (xs ++ s ∷ [])
    one_site = by (made s) refl ∙ sym (filter-append made xs (s ∷ []))
      where
        by : (b : Bool) → made s ≡ b → with_site (filter made xs) s ≡ filter made xs ++ cond b (s ∷ []) []
        by true is =
            ap (λ (b : Bool). if b then filter made xs ++ s ∷ [] else filter made xs) (same_test s.made refl ∙ is)
        by false is =
            ap (λ (b : Bool). if b then filter made xs ++ s ∷ [] else filter made xs) (same_test s.made refl ∙ is)
            ∙ sym (append-nil (filter made xs))

  all_sites : (xs ys : List Site) (e k : ℕ)
      → sites p ≡ xs ++ ys
      → AreBelow xs e k
      → AreRising e k ys
      → nodes_from (filter made xs) ys ≡ filter made (xs ++ ys)
  all_sites xs [] e k split below rising = ap (filter made) (sym (append-nil xs))
  all_sites xs (s ∷ rest) e k split below rising =
      let next : xs ++ s ∷ rest ≡ (xs ++ s ∷ []) ++ rest = sym (append_assoc xs (s ∷ []) rest) in
      ap (λ (ns : List Site). nodes_from ns rest) (one_site xs rest s split e k below rising.0)
      ∙ all_sites (xs ++ s ∷ []) rest s.element (s.place + 1) (split ∙ next) (all_below xs s e k below rising.0)
      rising.1
      ∙ ap (filter made) (sym next)

  later : (ys : List Site) (e k : ℕ) → AreRising (e + 1) 0 ys → AreRising e k ys
  later [] e k h = tt {0}
  later (s ∷ rest) e k h = (elim h.0 [ inl a ↦ inl (omega arith) | inr a ↦ inl (let same = a.0 in omega arith) ], h.1)

  made_rise : (e k : ℕ) (ms : List Made) (ys : List Site)
      → AreRising (e + 1) 0 ys
      → AreRising e k (sites_from e k ms ++ ys)
  made_rise e k [] ys h = later ys e k h
  made_rise e k (m ∷ ms) ys h = (inr (refl, omega arith), made_rise e (k + 1) ms ys h)

  pub elements_rise : (n : ℕ) (xs : List Element) → AreRising n 0 (flat_map (element_sites p) (enumerate_from n xs))
  elements_rise n [] = tt {0}
  elements_rise n (x ∷ xs) =
      made_rise n 0 (made_by_body p n (width_of x.ty) x.body) (flat_map (element_sites p) (enumerate_from (n + 1) xs))
      (elements_rise (n + 1) xs)

  pub nodes_are : nodes_of (sites p) ≡ node_sites p
  nodes_are = all_sites [] (sites p) 0 0 refl (tt {0}) (elements_rise 0 p.elems)
