-- Which word of a row an element of main's parameters has.
use Rattle.std.proofs.Common.{◌≡◌, ◌<◌, ◌+◌, inl, inr, ℕ, zero, suc, List, [], ◌∷◌, map, length, slice_get, Some, refl}
use Rattle.std.proofs.Common.{sym, ap, subst, arith}
use Rattle.std.specs.List.{range_with_len}
use Rattle.lists.proofs.Places.{at_append, at_left, at_right}
use Rattle.silage_syntax.specs.declared.tree.Decl.{Decl}
use Rattle.silage_syntax.specs.Names.{element_count}
use Rattle.silage_meaning.specs.Instances.{Instance as Path, Element, element, elements_from}

module _ (path : Path) where
  abbrev row : (d a n : ℕ) → List Element
  row d a n = map (element path d) (range_with_len a n)

  at_row : (d a n j : ℕ) (e : Element) → slice_get (row d a n) j ≡ Some e → (element path d (a + j) ≡ e) × (j < n)
  at_row d a zero j e h = absurd (cc (h))
  at_row d a (suc n) zero e h =
      let same : element path d a ≡ e = cc (h) in
      let none : a + 0 ≡ a = omega arith in
      (rw none same, omega arith)
  at_row d a (suc n) (suc j) e h =
      let rest = at_row d (a + 1) n j e h in
      let less = rest.1 in
      let shift : a + suc j ≡ a + 1 + j = omega arith in
      (rw shift rest.0, omega arith)

  in_row : (d a n j : ℕ) → j < n → slice_get (row d a n) j ≡ Some (element path d (a + j))
  in_row d a zero j less = absurd (omega arith)
  in_row d a (suc n) zero less = let none : a + 0 ≡ a = omega arith in rw none refl
  in_row d a (suc n) (suc j) less =
      let shift : a + suc j ≡ a + 1 + j = omega arith in rw shift (in_row d (a + 1) n j (omega arith))

  pub record IsWord (a : ℕ) (ds : List Decl) (e : Element) : Type 0 where
    pub index : ℕ
    pub decl : Decl
    pub instance : e.instance ≡ path
    pub declaration : e.declaration ≡ a + index
    pub stands : slice_get ds index ≡ Some decl
    pub within : e.offset < element_count decl.dims

  pub from_word : (a : ℕ) (ds : List Decl) (j : ℕ) (e : Element)
      → slice_get (elements_from path a ds) j ≡ Some e
      → IsWord a ds e
  from_word a [] j e h = absurd (cc (h))
  from_word a (x ∷ ds) j e h = elim (at_append (row a 0 (element_count x.dims)) (elements_from path (a + 1) ds) j e h) [
    | inl own ↦
        let at = at_row a 0 (element_count x.dims) j e own in
        let less = at.1 in
        subst (λ (y : Element). IsWord a (x ∷ ds) y) at.0
        (record {
          index = 0;
          decl = x;
          instance = refl;
          declaration = omega arith;
          stands = refl;
          within = omega arith;
        })
    | inr rest ↦
        let more = from_word (a + 1) ds rest.0 e rest.2 in
        record {
          index = suc more.index;
          decl = more.decl;
          instance = more.instance;
          declaration = omega (arith, more.declaration);
          stands = more.stands;
          within = more.within;
        }
  ]

  pub has_word : (a : ℕ) (ds : List Decl) (n : ℕ) (decl : Decl) (d k : ℕ)
      → slice_get ds n ≡ Some decl
      → d ≡ a + n
      → k < element_count decl.dims
      → (j : ℕ) × (slice_get (elements_from path a ds) j ≡ Some (element path d k))
  has_word a [] n decl d k stands is within = absurd (cc (stands))
  has_word a (x ∷ ds) zero decl d k stands is within =
      let same : x ≡ decl = cc (stands) in
      let less = subst (λ (y : Decl). k < element_count y.dims) (sym same) within in
      let here : d ≡ a = omega arith in
      let none : 0 + k ≡ k = omega arith in
      let there : slice_get (row a 0 (element_count x.dims)) k ≡ Some (element path a k) =
      rw none at (in_row a 0 (element_count x.dims) k less) in
      (k, rw here (at_left (row a 0 (element_count x.dims)) (elements_from path (a + 1) ds) k (element path a k) there))
  has_word a (x ∷ ds) (suc n) decl d k stands is within =
      let rest = has_word (a + 1) ds n decl d k stands (omega arith) within in (
        length (row a 0 (element_count x.dims)) + rest.0,
        at_right (row a 0 (element_count x.dims)) (elements_from path (a + 1) ds)
            (length (row a 0 (element_count x.dims)) + rest.0) rest.0 (element path d k) refl rest.1,
      )

  later : (a : ℕ) (n : ℕ) (ds : List Decl) (j i : ℕ) (e : Element)
      → slice_get (row a 0 n) j ≡ Some e
      → slice_get (elements_from path (a + 1) ds) i ≡ Some e
      → ⊥
  later a n ds j i e h g =
      let own : a ≡ e.declaration = ap (λ (x : Element). x.declaration) (at_row a 0 n j e h).0 in
      let other = (from_word (a + 1) ds i e g).declaration in
      omega arith

  same_row : (a n j i : ℕ) (e : Element) → slice_get (row a 0 n) j ≡ Some e → slice_get (row a 0 n) i ≡ Some e → j ≡ i
  same_row a n j i e h g =
      let first : 0 + j ≡ e.offset = ap (λ (x : Element). x.offset) (at_row a 0 n j e h).0 in
      let second : 0 + i ≡ e.offset = ap (λ (x : Element). x.offset) (at_row a 0 n i e g).0 in
      omega arith

  -- an element has one word
  pub word_once : (a : ℕ) (ds : List Decl) (j i : ℕ) (e : Element)
      → slice_get (elements_from path a ds) j ≡ Some e
      → slice_get (elements_from path a ds) i ≡ Some e
      → j ≡ i
  word_once a [] j i e h g = absurd (cc (h))
  word_once a (x ∷ ds) j i e h g =
      elim (at_append (row a 0 (element_count x.dims)) (elements_from path (a + 1) ds) j e h) [
        | inl own ↦ elim (at_append (row a 0 (element_count x.dims)) (elements_from path (a + 1) ds) i e g) [
          | inl other ↦ same_row a (element_count x.dims) j i e own other
          | inr other ↦ absurd (later a (element_count x.dims) ds j other.0 e own other.2)
        ]
        | inr rest ↦ elim (at_append (row a 0 (element_count x.dims)) (elements_from path (a + 1) ds) i e g) [
          | inl other ↦ absurd (later a (element_count x.dims) ds i rest.0 e other rest.2)
          | inr other ↦
              let same = word_once (a + 1) ds rest.0 other.0 e rest.2 other.2 in omega (arith, rest.1, other.1)
        ]
      ]
