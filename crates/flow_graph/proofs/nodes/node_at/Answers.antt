use Rattle.std.proofs.Common.{◌≡◌, ◌<◌, ◌+◌, ◌∙◌, Bool, List, [], Option, Some, length, sym, ap, subst, if◌then◌else◌}
use Rattle.std.proofs.Common.{arith}
use Rattle.std.specs.Prelude.{slice_get, option_map, ◌==◌}
use Rattle.std.proofs.lemmas.List.{length-map, get_or-map}
use Rattle.std.proofs.lemmas.Option.{slice_get-map}
use Rattle.lists.proofs.Places.{some_once}
use Rattle.signal_graph.specs.Flat.{Element, view, view_elem}
use Rattle.signal_graph.specs.FlatSolves.{no_element, element_of}
use Rattle.signal_graph.specs.Rules.{width_of}
use Rattle.signal_graph.specs.GraphOf.{Site as Place, sites, element_sites, IsMade, inits_at}
use Rattle.signal_graph.proofs.Members.{at_member}
use Rattle.signal_graph.proofs.Places.{in_place}
use Rattle.flow_graph.specs.Private.NodesBy.{IsMadeAt, is_end_before}
use Rattle.flow_graph.specs.Private.Sites.{view_site}
use Rattle.flow_graph.proofs.Adding.{if_ok}
use Rattle.flow_graph.proofs.AllSites.{site_at}
use Rattle.flow_graph.proofs.ElementPlaces.{among}
use Rattle.flow_graph.proofs.NodeSteps.{can_be_made, made_right, last_test}
use Rattle.flow_graph.proofs.nodes.node_at.Goals as goal

pub index-element-requires : goal.index-element-requires
index-element-requires c =
    let p = view c.args.flat.now in
    let s = view_site c.index-sites-index.result in
    let at : slice_get (sites p) c.args.index ≡ Some s =
    subst (λ (xs : List Place). slice_get xs c.args.index ≡ Some s) c.requires.sites
    (site_at c.args.sites.now c.args.index c.index-sites-index.result c.requires.index c.index-sites-index.is) in
    let is = in_place p s (at_member (sites p) c.args.index s at) in
    let low = is.element in
    let size = length-map c.args.flat.now.elems view_elem in
    omega arith

pub overflow_sub-first : goal.overflow_sub-first
overflow_sub-first c =
    let p = view c.args.flat.now in
    let s = view_site c.index-sites-index.result in
    let at : slice_get (sites p) c.args.index ≡ Some s =
    subst (λ (xs : List Place). slice_get xs c.args.index ≡ Some s) c.requires.sites
    (site_at c.args.sites.now c.args.index c.index-sites-index.result c.requires.index c.index-sites-index.is) in
    (among p c.args.index s at).inside

pub node_of-requires : goal.node_of-requires
node_of-requires c =
    let p = view c.args.flat.now in
    let s = view_site c.index-sites-index.result in
    let at : slice_get (sites p) c.args.index ≡ Some s =
    subst (λ (xs : List Place). slice_get xs c.args.index ≡ Some s) c.requires.sites
    (site_at c.args.sites.now c.args.index c.index-sites-index.result c.requires.index c.index-sites-index.is) in
    can_be_made p c.args.index s at c.requires.sound c.args.places.now c.args.words.now c.requires.numbers
    c.args.elements.now c.requires.elements (c.requires.made s at)

pub returns : goal.returns
returns c =
    let p = view c.args.flat.now in
    let i = c.args.index in
    let s = view_site c.index-sites-index.result in
    let at : slice_get (sites p) i ≡ Some s =
    subst (λ (xs : List Place). slice_get xs i ≡ Some s) c.requires.sites
    (site_at c.args.sites.now i c.index-sites-index.result c.requires.index c.index-sites-index.is) in
    let is = in_place p s (at_member (sites p) i s at) in
    let low = is.element in
    let size = length-map c.args.flat.now.elems view_elem in
    let within : s.element < length c.args.flat.now.elems = omega arith in
    let its_element : view_elem c.index-element.result.now ≡ element_of p s.element =
    ap view_elem c.index-element.ensures
    ∙ sym (get_or-map view_elem c.args.flat.now.elems s.element c.index-element.result.now no_element within) in
    let next : option_map view_site (slice_get c.args.sites.now (i + 1)) ≡ slice_get (sites p) (i + 1) =
    sym (slice_get-map view_site c.args.sites.now (i + 1))
    ∙ ap (λ (xs : List Place). slice_get xs (i + 1)) c.requires.sites in
    let ends =
    c.is_end-is_last.ensures ∙ ap (λ (o : Option Place). is_end_before o s.element) next ∙ last_test p i s at in
    let inits : (if c.is_end-is_last.result then c.index-element.result.now.inits else []) ≡ inits_at p s =
    ap (λ (b : Bool). if b then c.index-element.result.now.inits else []) ends
    ∙ ap
    (λ (x : Element). if s.place + 1 == length (element_sites p (s.element, element_of p s.element)) then x.inits
    else [])
    its_element in
    let wide : width_of c.index-element.result.now.ty ≡ width_of (element_of p s.element).ty =
    ap (λ (x : Element). width_of x.ty) its_element in
    if_ok _ (IsMadeAt p i)
    (λ node h t there. subst (λ (u : Place). IsMade p u u.made node) (some_once at there)
    (made_right p i s at c.requires.sound c.args.places.now c.args.words.now c.requires.numbers c.args.elements.now
    c.requires.elements (if c.is_end-is_last.result then c.index-element.result.now.inits else [])
    (width_of c.index-element.result.now.ty) node inits wide h))
    c.node_of.result c.node_of.ensures
