-- What stands at the places of elements, and which nodes are made there.
use Rattle.std.proofs.Common.{◌≡◌, sym, ap, ◌∙◌, subst, arith, ℕ, zero, suc, ◌+◌, ◌<◌, ◌⊎◌, inl, inr, List, [], ◌∷◌}
use Rattle.std.proofs.Common.{length}
use Rattle.std.specs.Prelude.{slice_get, Contains, Some}
use Rattle.std.specs.List.{enumerate_from}
use Rattle.std.proofs.lemmas.Option.{slice_get-get_or, slice_get_within, get_or_from_slice_get, same_Some, none-some}
use Rattle.signal_graph.specs.Flat.{Element, Program}
use Rattle.signal_graph.specs.Rules.{width_of}
use Rattle.signal_graph.specs.FlatSolves.{no_element, element_of}
use Rattle.signal_graph.specs.GraphOf.{Made, Site, sites_from, element_sites, sites, made_by_body}
use Rattle.signal_graph.proofs.Members.{in_rest, first_or_rest, in_none, in_flat_map, from_flat_map, in_enumerate}
use Rattle.signal_graph.proofs.Members.{from_enumerate}

abbrev pub site : (e k : ℕ) → Made → Site
site e k m = record { element = e; place = k; made = m }

-- what is made at the places of element e
abbrev pub made_of : Program → ℕ → List Made
made_of p e = made_by_body p e (width_of (element_of p e).ty) (element_of p e).body

in_sites_from : (e k : ℕ) (ms : List Made) (i : ℕ) (m : Made)
    → slice_get ms i ≡ Some m
    → Contains (sites_from e k ms) (site e (k + i) m)
in_sites_from e k [] i m h = absurd (none-some m h)
in_sites_from e k (x ∷ xs) zero m h =
    let place : k ≡ k + 0 = omega arith in
    (0, omega arith, ap (λ (j : ℕ). site e j x) place ∙ ap (λ (y : Made). site e (k + 0) y) (same_Some x m h))
in_sites_from e k (x ∷ xs) (suc i) m h =
    let place : k + 1 + i ≡ k + suc i = omega arith in
    in_rest (site e k x) (site e (k + suc i) m) (sites_from e (k + 1) xs)
    (subst (λ (j : ℕ). Contains (sites_from e (k + 1) xs) (site e j m)) place (in_sites_from e (k + 1) xs i m h))

-- the place is the one at index i of those from place k on of element e
record IsFrom (e k : ℕ) (ms : List Made) (s : Site) : Type 0 where
  pub index : ℕ
  pub element : s.element ≡ e
  pub place : s.place ≡ k + index
  pub made : slice_get ms index ≡ Some s.made

from_sites_from : (e k : ℕ) (ms : List Made) (s : Site) → Contains (sites_from e k ms) s → IsFrom e k ms s
from_sites_from e k [] s c = absurd (in_none s c)
from_sites_from e k (x ∷ xs) s c =
    by (first_or_rest (site e k x) s (sites_from e (k + 1) xs) c) (λ i. from_sites_from e (k + 1) xs s i)
  where
    by : (site e k x ≡ s) ⊎ Contains (sites_from e (k + 1) xs) s
        → (Contains (sites_from e (k + 1) xs) s → IsFrom e (k + 1) xs s)
        → IsFrom e k (x ∷ xs) s
    by (inl h) rest =
        let place : k ≡ s.place = ap (λ (t : Site). t.place) h in
        record {
          index = 0;
          element = sym (ap (λ (t : Site). t.element) h);
          place = omega arith;
          made = ap (λ (t : Site). Some t.made) h;
        }
    by (inr i) rest =
        let is = rest i in
        let place = is.place in
        record { index = suc is.index; element = is.element; place = omega arith; made = is.made }

-- the place is one of an element of the program, and this is made there
pub record IsPlace (p : Program) (s : Site) : Type 0 where
  pub element : s.element < length p.elems
  pub made : slice_get (made_of p s.element) s.place ≡ Some s.made

pub place_in : (p : Program) (s : Site) → IsPlace p s → Contains (sites p) s
place_in p s is =
    let e = s.element in
    let x = element_of p e in
    let place : 0 + s.place ≡ s.place = omega arith in
    in_flat_map (element_sites p) (enumerate_from 0 p.elems) (e, x) s
    (in_enumerate p.elems e x (slice_get-get_or p.elems e no_element is.element))
    (subst (λ (k : ℕ). Contains (element_sites p (e, x)) (site e k s.made)) place
    (in_sites_from e 0 (made_of p e) s.place s.made is.made))

pub in_place : (p : Program) (s : Site) → Contains (sites p) s → IsPlace p s
in_place p s c =
    let (i, j, k) = from_flat_map (element_sites p) (enumerate_from 0 p.elems) s c in
    let there = from_enumerate p.elems i j in
    let from = from_sites_from i.0 0 (made_by_body p i.0 (width_of i.1.ty) i.1.body) s k in
    let e = from.element in
    let place : from.index ≡ s.place = let h = from.place in omega arith in
    let same : i.1 ≡ element_of p i.0 = sym (get_or_from_slice_get p.elems i.0 i.1 no_element there) in
    record {
      element = subst (λ (n : ℕ). n < length p.elems) (sym e) (slice_get_within p.elems i.0 i.1 there);
      made =
          subst (λ (n : ℕ). slice_get (made_of p n) s.place ≡ Some s.made) (sym e)
          (subst (λ (x : Element). slice_get (made_by_body p i.0 (width_of x.ty) x.body) s.place ≡ Some s.made) same
          (subst (λ (n : ℕ). slice_get (made_by_body p i.0 (width_of i.1.ty) i.1.body) n ≡ Some s.made) place
          from.made));
    }
