use Rattle.std.proofs.Common.{◌≡◌, ◌<◌, length, get_or, ap, sym, ◌∙◌, arith}
use Rattle.std.proofs.lemmas.List.{length-map, get_or-map}
use Rattle.signal_graph.specs.Flat.{view, view_elem}
use Rattle.flow_graph.proofs.AllSites.{sites_more, sites_all}
use Rattle.flow_graph.proofs.sites.sites_of.Goals as goal

pub loop-elem-preserved : goal.loop-elem-preserved
loop-elem-preserved c =
    let elems = c.args.flat.now.elems in
    let size = length-map elems view_elem in
    let below : c.loop-elem.elem < length elems = let n = c.len-elem-end.ensures in omega arith in
    let within : c.loop-elem.elem < length (view c.args.flat.now).elems = omega arith in
    let is : view_elem c.index.result.now
    ≡ get_or (view c.args.flat.now).elems c.loop-elem.elem (view_elem c.index.result.now) =
    ap view_elem c.index.ensures
    ∙ sym (get_or-map view_elem elems c.loop-elem.elem c.index.result.now (view_elem c.index.result.now) below) in
    sites_more (view c.args.flat.now) c.loop-elem.list c.add_element.new.sites c.loop-elem.elem
    (view_elem c.index.result.now) _ within is (c.requires.delayed.at c.loop-elem.elem within) c.loop-elem.invariant
    c.in_ok-add_element.ensures

pub returns : goal.returns
returns c =
    let size = length-map c.args.flat.now.elems view_elem in
    sites_all (view c.args.flat.now) c.loop-elem.list c.loop-elem.elem (let n = c.len-elem-end.ensures in omega arith)
    c.loop-elem.invariant
