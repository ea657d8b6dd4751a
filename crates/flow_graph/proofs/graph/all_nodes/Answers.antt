use Rattle.std.proofs.Common.{◌≡◌, ℕ, List, Some, length, refl, sym, ap, subst, arith}
use Rattle.std.specs.Prelude.{slice_get}
use Rattle.std.proofs.lemmas.List.{length-map}
use Rattle.signal_graph.specs.Flat.{view}
use Rattle.signal_graph.specs.GraphOf.{Site as Place}
use Rattle.flow_graph.specs.Private.ElementNodes.{AreElementNumbers}
use Rattle.flow_graph.specs.Private.Outputs.{AddsOutputs}
use Rattle.flow_graph.specs.Private.Sites.{view_site}
use Rattle.flow_graph.proofs.OutputSteps.{few_sites, outs_there, element_below, graph_of}
use Rattle.flow_graph.proofs.graph.all_nodes.Goals as goal

pub number_all-requires : goal.number_all-requires
number_all-requires c =
    let p = view c.args.flat.now in
    let size = length-map c.args.places.now view_site in
    let same = ap (λ (xs : List Place). length xs) c.requires.places in
    omega (arith, few_sites p, c.requires.sound.element_count, c.requires.sound.size)

pub add_outputs-requires-clause-elements : goal.add_outputs-requires-clause-elements
add_outputs-requires-clause-elements c j e at =
    let p = view c.args.flat.now in
    let there = outs_there p c.requires.sound j e
    (subst (λ (xs : List ℕ). slice_get xs j ≡ Some e) c.as_slice-3.ensures at) in
    let size = c.in_ok-elements.ensures.size in
    let items = ap (λ (xs : List ℕ). length xs) c.deref-2.ensures.value in
    omega arith

pub add_outputs-requires-clause-nodes : goal.add_outputs-requires-clause-nodes
add_outputs-requires-clause-nodes c j e at =
    let p = view c.args.flat.now in
    let there = outs_there p c.requires.sound j e
    (subst (λ (xs : List ℕ). slice_get xs j ≡ Some e) c.as_slice-3.ensures at) in
    let numbers =
    subst (λ (xs : List ℕ). AreElementNumbers p xs) (sym c.deref-2.ensures.value) c.in_ok-elements.ensures in
    element_below p c.in_ok-nodes.nodes c.in_ok-nodes.ensures c.deref-2.result.now numbers e there

pub returns : goal.returns
returns c =
    let p = view c.args.flat.now in
    let numbers =
    subst (λ (xs : List ℕ). AreElementNumbers p xs) (sym c.deref-2.ensures.value) c.in_ok-elements.ensures in
    let outs : AddsOutputs c.in_ok-nodes.nodes c.deref-2.result.now p.outs (length p.outs) c.add_outputs.new.nodes =
    subst (λ (xs : List ℕ). AddsOutputs c.in_ok-nodes.nodes c.deref-2.result.now xs (length xs) c.add_outputs.new.nodes)
    c.as_slice-3.ensures c.in_ok-add_outputs.ensures in
    graph_of p c.in_ok-nodes.nodes c.in_ok-nodes.ensures c.deref-2.result.now numbers
    (record { nodes = c.add_outputs.new.nodes; inputs = p.inputs; outs = length p.outs }) refl refl outs
    (outs_there p c.requires.sound)
