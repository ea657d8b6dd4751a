use Rattle.std.proofs.Common.{◌≡◌, ◌<◌, ◌+◌, Some, length, get_or, ap, subst, arith, map}
use Rattle.std.specs.Prelude.{slice_get}
use Rattle.std.proofs.Math.ListN.{set}
use Rattle.std.proofs.lemmas.List.{length-map}
use Rattle.flow_graph.specs.declared.sites.Site.{Site as CodeSite}
use Rattle.flow_graph.specs.Private.Sites.{view_site}
use Rattle.flow_graph.specs.Private.LastPlaces.{LastUpTo}
use Rattle.flow_graph.proofs.AllSites.{site_at}
use Rattle.flow_graph.proofs.LastSteps.{one_last}
use Rattle.flow_graph.proofs.elements.last_numbers.Goals as goal

pub index_mut-requires : goal.index_mut-requires
index_mut-requires c =
    let at : slice_get (map view_site c.args.sites.now) c.loop-place.place
    ≡ Some (view_site c.index-sites-place.result) =
    site_at c.args.sites.now c.loop-place.place c.index-sites-place.result c.loop-place-test.true
    c.index-sites-place.is in
    let low : c.index-sites-place.result.elem < c.args.elements =
    c.requires.within c.loop-place.place (view_site c.index-sites-place.result) at in
    let same = ap (λ (x : CodeSite). x.elem) c.index-sites-place.is in
    let size = c.loop-place.invariant.size in
    omega arith

pub loop-place-preserved : goal.loop-place-preserved
loop-place-preserved c =
    let at : slice_get (map view_site c.args.sites.now) c.loop-place.place
    ≡ Some (view_site c.index-sites-place.result) =
    site_at c.args.sites.now c.loop-place.place c.index-sites-place.result c.loop-place-test.true
    c.index-sites-place.is in
    let low : c.index-sites-place.result.elem < c.args.elements =
    c.requires.within c.loop-place.place (view_site c.index-sites-place.result) at in
    let more =
    one_last (map view_site c.args.sites.now) c.args.numbers.now c.loop-place.last.items c.args.elements
    c.loop-place.place (view_site c.index-sites-place.result) at low c.loop-place.invariant in
    subst (λ (s : CodeSite).
    LastUpTo (map view_site c.args.sites.now) c.args.numbers.now c.args.elements (c.loop-place.place + 1)
    (set c.loop-place.last.items s.elem (get_or c.args.numbers.now c.loop-place.place 0)))
    c.index-sites-place.is more

pub returns : goal.returns
returns c =
    let size = length-map c.args.sites.now view_site in
    let end : c.loop-place.place ≡ length (map view_site c.args.sites.now) = omega arith in
    subst (λ n. LastUpTo (map view_site c.args.sites.now) c.args.numbers.now c.args.elements n c.loop-place.last.items)
    end c.loop-place.invariant
