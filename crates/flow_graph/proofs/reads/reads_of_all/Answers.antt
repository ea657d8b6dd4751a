use Rattle.std.proofs.Common.{ap, sym, ◌∙◌, map}
use Rattle.std.proofs.lemmas.Simd.{map-map}
use Rattle.signal_graph.specs.Flat.{Element, view_elem, view_body}
use Rattle.flow_graph.specs.Private.ReadsNow.{body_reads_now}
use Rattle.flow_graph.proofs.Adding.{mapped_all}
use Rattle.flow_graph.proofs.reads.reads_of_all.Goals as goal

pub returns : goal.returns
returns c =
    let of_elem = λ (x : Element). body_reads_now x.body in
    mapped_all (λ x. body_reads_now (view_body x.body)) _ _ _ c.loop-element-test.false c.loop-element.invariant
    ∙ ap (map (λ x. body_reads_now (view_body x.body))) c.as_slice-element-items.ensures
    ∙ sym (map-map of_elem view_elem c.args.flat.now.elems)
