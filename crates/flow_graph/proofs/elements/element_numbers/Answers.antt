use Rattle.std.proofs.Common.{◌≡◌, ◌∙◌, ℕ, List, Some, map, sym, ap, subst, arith}
use Rattle.std.specs.Prelude.{slice_get, slice_index}
use Rattle.signal_graph.specs.Flat.{view}
use Rattle.signal_graph.specs.GraphOf.{Site as Place}
use Rattle.signal_graph.proofs.Members.{at_member}
use Rattle.signal_graph.proofs.Places.{in_place}
use Rattle.flow_graph.specs.Private.ElementNodes.{AreElementNumbers}
use Rattle.flow_graph.specs.Private.LastPlaces.{AreLast}
use Rattle.flow_graph.proofs.Adding.{if_ok}
use Rattle.flow_graph.proofs.ElementNumbers.{all_elements}
use Rattle.flow_graph.proofs.elements.element_numbers.Goals as goal

pub last_numbers-requires-clause-within : goal.last_numbers-requires-clause-within
last_numbers-requires-clause-within c i s at =
    let p = view c.args.flat.now in
    let is = in_place p s
    (at_member _ i s (subst (λ (xs : List Place). slice_get xs i ≡ Some s) c.requires.places at)) in
    let low = is.element in
    let size = c.in_ok-ends.ensures.size in
    let count = c.len.ensures in
    omega arith

pub returns : goal.returns
returns c =
    let p = view c.args.flat.now in
    let (words, are) = c.requires.numbers in
    let last = subst (λ (xs : List Place). AreLast xs c.args.numbers.now c.len.result c.in_ok-last.last.items)
    c.requires.places c.in_ok-last.ensures in
    let all = all_elements p c.args.numbers.now words are c.in_ok-last.last.items c.len.result last
    c.in_ok-ends.ends.items c.in_ok-ends.ensures.size c.in_ok-ends.ensures.inside c.in_ok-ends.ensures.ends in
    if_ok _ (λ elements. AreElementNumbers p elements.items)
    (λ elements is. subst (λ (xs : List ℕ). AreElementNumbers p xs)
    (ap (λ (xs : List ℕ). map (λ end. slice_index xs end) c.in_ok-ends.ends.items) (sym c.deref.ensures.value)
    ∙ ap (λ (xs : List ℕ). map (λ end. slice_index c.deref.result.now end) xs) (sym c.deref-2.ensures.value)
    ∙ sym is) all)
    c.numbers_at.result c.numbers_at.ensures
