-- The places of an element stand one behind another.
use Rattle.std.proofs.Common.{◌≡◌, refl, sym, ap, subst, ◌∙◌, ℕ, zero, suc, ◌+◌, ◌-◌, ◌≤◌, inl, inr, List, [], ◌∷◌}
use Rattle.std.proofs.Common.{length, arith}
use Rattle.std.specs.Prelude.{slice_get, Some, flat_map}
use Rattle.std.specs.List.{enumerate_from}
use Rattle.std.proofs.lemmas.Bool.{cases_order}
use Rattle.std.proofs.lemmas.Option.{none-some, same_Some, slice_get-get_or}
use Rattle.lists.proofs.Places.{at_left, at_right}
use Rattle.signal_graph.specs.Flat.{Element, Program}
use Rattle.signal_graph.specs.FlatSolves.{no_element, element_of}
use Rattle.signal_graph.specs.GraphOf.{Made, Site, sites_from, element_sites, sites}
use Rattle.signal_graph.proofs.Members.{at_member}
use Rattle.signal_graph.proofs.Places.{site, made_of, in_place}
use Rattle.flow_graph.proofs.FirstSites.{elements_rise}
use Rattle.flow_graph.proofs.ElementNumbers.{later_above}

in_order : (e k : ℕ) (ms : List Made) (i : ℕ) (m : Made)
    → slice_get ms i ≡ Some m
    → slice_get (sites_from e k ms) i ≡ Some (site e (k + i) m)
in_order e k [] i m h = absurd (none-some m h)
in_order e k (x ∷ xs) zero m h =
    let place : k ≡ k + 0 = omega arith in
    ap (λ (j : ℕ). Some (site e j x)) place ∙ ap (λ (y : Made). Some (site e (k + 0) y)) (same_Some x m h)
in_order e k (x ∷ xs) (suc i) m h =
    let place : k + 1 + i ≡ k + suc i = omega arith in
    in_order e (k + 1) xs i m h ∙ ap (λ (j : ℕ). Some (site e j m)) place

module _ (p : Program) where
  -- the places of an element stand in the list from this index on
  abbrev StandFrom : List Site → (first : ℕ) → List Site → Type 0
  StandFrom all first ys = (k : ℕ) (s : Site) → slice_get ys k ≡ Some s → slice_get all (first + k) ≡ Some s

  stand : (n : ℕ) (xs : List Element) (e : ℕ) (x : Element)
      → slice_get xs e ≡ Some x
      → (first : ℕ) × StandFrom (flat_map (element_sites p) (enumerate_from n xs)) first (element_sites p (n + e, x))
  stand n [] e x h = absurd (none-some x h)
  stand n (y ∷ ys) zero x h = (
    0,
    λ k s at. (let back : 0 + k ≡ k = omega arith in
        let none : n + 0 ≡ n = omega arith in
        let first : slice_get (element_sites p (n, y)) k ≡ Some s =
        subst (λ (z : Element). slice_get (element_sites p (n, z)) k ≡ Some s) (sym (same_Some y x h))
        (subst (λ (j : ℕ). slice_get (element_sites p (j, x)) k ≡ Some s) none at) in
        rw back
        (at_left (element_sites p (n, y)) (flat_map (element_sites p) (enumerate_from (n + 1) ys)) k s first)),
  )
  stand n (y ∷ ys) (suc e) x h =
      let (first, are) = stand (n + 1) ys e x h in
      let here = element_sites p (n, y) in (
        length here + first,
        λ k s at. (let back : length here + first + k ≡ length here + (first + k) = omega arith in
            let next : n + suc e ≡ n + 1 + e = omega arith in
            let there = are k s (subst (λ (j : ℕ). slice_get (element_sites p (j, x)) k ≡ Some s) next at) in
            rw back
            (at_right here (flat_map (element_sites p) (enumerate_from (n + 1) ys)) (length here + (first + k))
            (first + k) s refl
            there)),
      )

  -- a place is met once
  one_index : (i j : ℕ) (s t : Site)
      → s.element ≡ t.element
      → s.place ≡ t.place
      → slice_get (sites p) i ≡ Some s
      → slice_get (sites p) j ≡ Some t
      → i ≡ j
  one_index i j s t same also h g = elim (cases_order i j) [
    | inl is ↦ is
    | inr (inl less) ↦
        absurd (elim (later_above (sites p) 0 0 (elements_rise p 0 p.elems) i j s t less h g) [
          | inl a ↦ omega arith
          | inr a ↦ (let high = a.1 in omega arith)
        ])
    | inr (inr more) ↦
        absurd (elim (later_above (sites p) 0 0 (elements_rise p 0 p.elems) j i t s more g h) [
          | inl a ↦ omega arith
          | inr a ↦ (let high = a.1 in omega arith)
        ])
  ]

  -- the place at an index, among those of its element
  pub record IsAmong (i : ℕ) (s : Site) : Type 0 where
    pub inside : s.place ≤ i
    pub others : (k : ℕ) (m : Made)
        → slice_get (made_of p s.element) k ≡ Some m
        → slice_get (sites p) (i - s.place + k) ≡ Some (site s.element k m)

  pub among : (i : ℕ) (s : Site) → slice_get (sites p) i ≡ Some s → IsAmong i s
  among i s at =
      let is = in_place p s (at_member (sites p) i s at) in
      let e = s.element in
      let (first, are) = stand 0 p.elems e (element_of p e) (slice_get-get_or p.elems e no_element is.element) in
      let there : (k : ℕ) (m : Made) → slice_get (made_of p e) k ≡ Some m
      → slice_get (sites p) (first + k) ≡ Some (site e k m) =
      λ k m h. (let none : 0 + e ≡ e = omega arith in
      let place : 0 + k ≡ k = omega arith in
      are k (site e k m)
      (subst (λ (j : ℕ). slice_get (element_sites p (j, element_of p e)) k ≡ Some (site e k m)) (sym none)
      (in_order e 0 (made_of p e) k m h ∙ ap (λ (j : ℕ). Some (site e j m)) place))) in
      let same : i ≡ first + s.place =
      one_index i (first + s.place) s (site e s.place s.made) refl refl at (there s.place s.made is.made) in
      record {
        inside = omega arith;
        others = λ k m h. (let back : first ≡ i - s.place = omega arith in
            subst (λ (j : ℕ). slice_get (sites p) (j + k) ≡ Some (site e k m)) back (there k m h));
      }
