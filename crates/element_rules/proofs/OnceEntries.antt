-- The entries of an expansion's list of elements are distinct.
use Rattle.std.proofs.Common.{◌≡◌, refl, sym, ap, arith, ℕ, zero, suc, ◌+◌, ◌≤◌, inl, inr, List, [], ◌∷◌, map}
use Rattle.std.proofs.Common.{slice_get, Some}
use Rattle.std.specs.List.{range_with_len}
use Rattle.lists.proofs.Places.{some_once, at_append}
use Rattle.silage_syntax.specs.declared.tree.Decl.{Decl}
use Rattle.silage_syntax.specs.Tree.{Program}
use Rattle.silage_syntax.specs.Names.{element_count}
use Rattle.element_rules.specs.declared.elements.Instance.{Instance}
use Rattle.element_rules.specs.declared.elements.Element.{Element as Entry}
use Rattle.element_rules.specs.Expansion.{elements_from, signals_of, elements_in}

abbrev entry : (number d k : ℕ) → Entry
entry number d k = record { inst = number; decl = d; place = k }

module _ (number : ℕ) where
  abbrev places : (d a n : ℕ) → List Entry
  places d a n = map (λ k. entry number d k) (range_with_len a n)

  place_at : (d a n j : ℕ) (e : Entry) → slice_get (places d a n) j ≡ Some e → e ≡ entry number d (a + j)
  place_at d a zero j e is = absurd (cc is)
  place_at d a (suc n) zero e is = let same : a + 0 ≡ a = omega arith in rw same (sym (some_once refl is))
  place_at d a (suc n) (suc j) e is =
      let same : a + suc j ≡ a + 1 + j = omega arith in rw same (place_at d (a + 1) n j e is)

  -- of declarations, of which the first has position d
  record IsFrom (d : ℕ) (e : Entry) : Type 0 where
    inst : e.inst ≡ number
    decl : d ≤ e.decl

  from : (ds : List Decl) (d j : ℕ) (e : Entry) → slice_get (elements_from number d ds) j ≡ Some e → IsFrom d e
  from [] d j e is = absurd (cc is)
  from (x ∷ ds) d j e is =
      elim (at_append (places d 0 (element_count x.dims)) (elements_from number (d + 1) ds) j e is) [
        | inl own ↦
            let it = place_at d 0 (element_count x.dims) j e own in
            record {
              inst = ap (λ (z : Entry). z.inst) it;
              decl = (let q : e.decl ≡ d = ap (λ (z : Entry). z.decl) it in omega arith);
            }
        | inr rest ↦
            let it = from ds (d + 1) rest.0 e rest.2 in
            record { inst = it.inst; decl = (let q = it.decl in omega arith) }
      ]

  from_once : (ds : List Decl) (d j k : ℕ) (e : Entry)
      → slice_get (elements_from number d ds) j ≡ Some e
      → slice_get (elements_from number d ds) k ≡ Some e
      → j ≡ k
  from_once [] d j k e is too = absurd (cc is)
  from_once (x ∷ ds) d j k e is too =
      elim (at_append (places d 0 (element_count x.dims)) (elements_from number (d + 1) ds) j e is) [
        | inl a ↦ elim (at_append (places d 0 (element_count x.dims)) (elements_from number (d + 1) ds) k e too) [
          | inl b ↦
              let p : e.place ≡ 0 + j = ap (λ (z : Entry). z.place) (place_at d 0 (element_count x.dims) j e a) in
              let q : e.place ≡ 0 + k = ap (λ (z : Entry). z.place) (place_at d 0 (element_count x.dims) k e b) in
              omega arith
          | inr b ↦
              let p : e.decl ≡ d = ap (λ (z : Entry). z.decl) (place_at d 0 (element_count x.dims) j e a) in
              let q = (from ds (d + 1) b.0 e b.2).decl in
              absurd (omega arith)
        ]
        | inr a ↦ elim (at_append (places d 0 (element_count x.dims)) (elements_from number (d + 1) ds) k e too) [
          | inl b ↦
              let p : e.decl ≡ d = ap (λ (z : Entry). z.decl) (place_at d 0 (element_count x.dims) k e b) in
              let q = (from ds (d + 1) a.0 e a.2).decl in
              absurd (omega arith)
          | inr b ↦ let same = from_once ds (d + 1) a.0 b.0 e a.2 b.2 in let s = a.1 in let t = b.1 in omega arith
        ]
      ]

module _ (p : Program) where
  in_at_least : (is : List Instance) (n j : ℕ) (e : Entry) → slice_get (elements_in p n is) j ≡ Some e → n ≤ e.inst
  in_at_least [] n j e is = absurd (cc is)
  in_at_least (i ∷ rest) n j e is =
      elim (at_append (elements_from n 0 (signals_of (slice_get p.tops i.func))) (elements_in p (n + 1) rest) j e is) [
        | inl own ↦ let q = (from n (signals_of (slice_get p.tops i.func)) 0 j e own).inst in omega arith
        | inr more ↦ let q = in_at_least rest (n + 1) more.0 e more.2 in omega arith
      ]

  pub entry_once : (is : List Instance) (n j k : ℕ) (e : Entry)
      → slice_get (elements_in p n is) j ≡ Some e
      → slice_get (elements_in p n is) k ≡ Some e
      → j ≡ k
  entry_once [] n j k e is too = absurd (cc is)
  entry_once (i ∷ es) n j k e is too =
      elim (at_append (elements_from n 0 (signals_of (slice_get p.tops i.func))) (elements_in p (n + 1) es) j e is) [
        | inl a ↦
            elim
            (at_append (elements_from n 0 (signals_of (slice_get p.tops i.func))) (elements_in p (n + 1) es) k e too) [
              | inl b ↦ from_once n (signals_of (slice_get p.tops i.func)) 0 j k e a b
              | inr b ↦
                  let s = (from n (signals_of (slice_get p.tops i.func)) 0 j e a).inst in
                  let t = in_at_least es (n + 1) b.0 e b.2 in
                  absurd (omega arith)
            ]
        | inr a ↦
            elim
            (at_append (elements_from n 0 (signals_of (slice_get p.tops i.func))) (elements_in p (n + 1) es) k e too) [
              | inl b ↦
                  let s = (from n (signals_of (slice_get p.tops i.func)) 0 k e b).inst in
                  let t = in_at_least es (n + 1) a.0 e a.2 in
                  absurd (omega arith)
              | inr b ↦
                  let same = entry_once es (n + 1) a.0 b.0 e a.2 b.2 in let s = a.1 in let t = b.1 in omega arith
            ]
      ]
