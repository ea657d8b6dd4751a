-- The first vertex that arcs one of its own component is the first that reaches itself.
use Rattle.std.proofs.Common.{◌≡◌, Some, length, ap, ◌∙◌, sym, subst, refl, arith}
use Rattle.std.specs.Prelude.{slice_get}
use Rattle.std.proofs.lemmas.Option.{slice_get_read}
use Rattle.digraph.specs.Private.Walk.{AreComponents}
use Rattle.digraph.proofs.WalkEnds.{heads_within, own_cyclic, first_met, passed_on, all_passed}
use Rattle.digraph.proofs.cycles.first_cyclic.Goals as goal

pub is_cyclic-requires-clause-heads : goal.is_cyclic-requires-clause-heads
is_cyclic-requires-clause-heads c g has =
    let stands : slice_get c.args.arcs.now c.loop-vertex.vertex ≡ Some c.deref-in-loop-vertex.result.now =
    slice_get_read c.args.arcs.now (length c.args.arcs.now) c.loop-vertex.vertex c.index-arcs-vertex.result refl
    c.loop-vertex-test.true c.index-arcs-vertex.is ∙ ap Some (sym c.deref-in-loop-vertex.ensures) in
    heads_within c.args.arcs.now c.deref.result.now c.loop-vertex.vertex c.deref-in-loop-vertex.result.now
    (subst (AreComponents c.args.arcs.now) (sym c.deref.ensures.value) c.in_ok-marks.ensures) stands c.requires.within g
    has

pub returns-then-is_cyclic : goal.returns-then-is_cyclic
returns-then-is_cyclic c =
    let stands : slice_get c.args.arcs.now c.loop-vertex.vertex ≡ Some c.deref-in-loop-vertex.result.now =
    slice_get_read c.args.arcs.now (length c.args.arcs.now) c.loop-vertex.vertex c.index-arcs-vertex.result refl
    c.loop-vertex-test.true c.index-arcs-vertex.is ∙ ap Some (sym c.deref-in-loop-vertex.ensures) in
    let own = c.is_cyclic.ensures.0 c.if-is_cyclic.true in
    first_met c.args.arcs.now c.loop-vertex.vertex c.loop-vertex.invariant
    (own_cyclic c.args.arcs.now c.deref.result.now c.loop-vertex.vertex c.deref-in-loop-vertex.result.now
    (subst (AreComponents c.args.arcs.now) (sym c.deref.ensures.value) c.in_ok-marks.ensures) stands own)

pub loop-vertex-preserved : goal.loop-vertex-preserved
loop-vertex-preserved c =
    let stands : slice_get c.args.arcs.now c.loop-vertex.vertex ≡ Some c.deref-in-loop-vertex.result.now =
    slice_get_read c.args.arcs.now (length c.args.arcs.now) c.loop-vertex.vertex c.index-arcs-vertex.result refl
    c.loop-vertex-test.true c.index-arcs-vertex.is ∙ ap Some (sym c.deref-in-loop-vertex.ensures) in
    passed_on c.args.arcs.now c.deref.result.now c.loop-vertex.vertex c.deref-in-loop-vertex.result.now
    c.is_cyclic.result (subst (AreComponents c.args.arcs.now) (sym c.deref.ensures.value) c.in_ok-marks.ensures) stands
    c.is_cyclic.ensures.1
    c.if-is_cyclic.false c.loop-vertex.invariant

pub returns : goal.returns
returns c = all_passed c.args.arcs.now c.loop-vertex.vertex (omega arith) c.loop-vertex.invariant
