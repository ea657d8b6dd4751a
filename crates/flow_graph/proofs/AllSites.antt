-- The places of all elements, one element after another.
use Rattle.std.proofs.Common.{◌≡◌, ℕ, ◌+◌, ◌-◌, ◌<◌, ◌≤◌, Bool, List, [], ◌∷◌, ◌++◌, length, get_or, take, refl, sym}
use Rattle.std.proofs.Common.{ap, ◌∙◌, map, arith}
use Rattle.std.specs.Prelude.{slice_get, option_map, Some}
use Rattle.std.specs.List.{enumerate_from, flat_map}
use Rattle.std.proofs.lemmas.Option.{slice_get-map, slice_get_read}
use Rattle.std.proofs.lemmas.Grind.{flat_map-append}
use Rattle.std.proofs.lemmas.List.{append-nil, take_more, take_all}
use Rattle.std.proofs.lemmas.List.FromFn.{length-enumerate_from, get_or-enumerate_from}
use Rattle.signal_graph.specs.Flat.{raw, read, calculation, Body, word, value, Element, Program}
use Rattle.signal_graph.specs.Rules.{width_of}
use Rattle.signal_graph.specs.GraphOf.{is_delayed, made_by_body, Site, sites_from, element_sites, sites}
use Rattle.flow_graph.specs.declared.sites.Site.{Site as CodeSite}
use Rattle.flow_graph.specs.Private.Sites.{view_site, Extends, made_of}

made_same : (p : Program) (e width : ℕ) (b : Body) → made_of (is_delayed p e) width b ≡ made_by_body p e width b
made_same p e width (word j) = refl
made_same p e width (value (raw m)) = refl
made_same p e width (value (read d ago)) = refl
made_same p e width (value (calculation o fmt parts)) = refl

-- the places of the first elements
abbrev pub sites_of_first : Program → ℕ → List Site
sites_of_first p i = flat_map (element_sites p) (take i (enumerate_from 0 p.elems))

first_more : (p : Program) (i : ℕ) (x : Element)
    → i < length p.elems
    → x ≡ get_or p.elems i x
    → sites_of_first p (i + 1) ≡ sites_of_first p i ++ element_sites p (i, x)
first_more p i x within is =
    let numbered = enumerate_from 0 p.elems in
    let inside : i < length numbered = let n = length-enumerate_from 0 p.elems in omega arith in
    let there : get_or numbered i (i, x) ≡ (i, x) =
    get_or-enumerate_from 0 p.elems i (i, x) within ∙ ap (λ (k : ℕ). (k, get_or p.elems i x)) (omega arith)
    ∙ ap (λ (y : Element). (i, y)) (sym is) in
    ap (flat_map (element_sites p))
    (take_more numbered i (i, x) inside ∙ ap (λ (y : ℕ × Element). take i numbered ++ y ∷ []) there)
    ∙ flat_map-append (element_sites p) (take i numbered) ((i, x) ∷ [])
    ∙ ap (λ ys. sites_of_first p i ++ ys) (append-nil (element_sites p (i, x)))

pub sites_more : (p : Program) (old new : List CodeSite) (i : ℕ) (x : Element) (d : Bool)
    → i < length p.elems
    → x ≡ get_or p.elems i x
    → d ≡ is_delayed p i
    → map view_site old ≡ sites_of_first p i
    → Extends old i (length old) (made_of d (width_of x.ty) x.body) new
    → map view_site new ≡ sites_of_first p (i + 1)
sites_more p old new i x d within is told h more =
    let none : length old - length old ≡ 0 = omega arith in
    more.is ∙ ap (λ n. map view_site old ++ sites_from i n (made_of d (width_of x.ty) x.body)) none
    ∙ ap (λ b. map view_site old ++ sites_from i 0 (made_of b (width_of x.ty) x.body)) told
    ∙ ap (λ ms. map view_site old ++ sites_from i 0 ms) (made_same p i (width_of x.ty) x.body)
    ∙ ap (λ ys. ys ++ element_sites p (i, x)) h ∙ sym (first_more p i x within is)

pub sites_all : (p : Program) (now : List CodeSite) (i : ℕ)
    → length p.elems ≤ i
    → map view_site now ≡ sites_of_first p i
    → map view_site now ≡ sites p
sites_all p now i past h =
    h
    ∙ ap (flat_map (element_sites p))
    (take_all i (enumerate_from 0 p.elems) (let n = length-enumerate_from 0 p.elems in omega arith))

pub site_at : (sites : List CodeSite) (i : ℕ) (x : CodeSite)
    → i < length sites
    → x ≡ get_or sites i x
    → slice_get (map view_site sites) i ≡ Some (view_site x)
site_at sites i x within is =
    slice_get-map view_site sites i ∙ ap (option_map view_site) (slice_get_read sites (length sites) i x refl within is)
