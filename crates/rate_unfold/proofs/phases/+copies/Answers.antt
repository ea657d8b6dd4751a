use Rattle.std.proofs.Common.{◌∙◌, ap, sym, subst, arith, map}
use Rattle.std.proofs.lemmas.List.{take_all}
use Rattle.signal_graph.specs.declared.flat.FlatExpr.{FlatExpr}
use Rattle.signal_graph.specs.Flat.{view_expr, calculation, size, size_of_parts}
use Rattle.signal_graph.specs.Expressions.{parts_of, view_exprs}
use Rattle.signal_graph.proofs.Rows.{view_Node}
use Rattle.signal_graph.proofs.Sizes.{size_within}
use Rattle.rate_unfold.specs.Private.Limits.{HasShortReads, HaveShortReads}
use Rattle.rate_unfold.specs.Private.Unfolding.{expr_in_phase, parts_in_phase}
use Rattle.rate_unfold.proofs.PhaseParts.{parts_each, short_within}
use Rattle.rate_unfold.proofs.phases.+copies.Goals as goal

pub expr_in_phase-parts_in_phase-requires : goal.expr_in_phase-parts_in_phase-requires
expr_in_phase-parts_in_phase-requires t c =
    let elements = c.args.phase.now.elements in
    let is = ap view_expr c.in-Node.is ∙ view_Node c.in-Node.op c.in-Node.fmt c.in-Node.parts in
    let same = ap view_exprs c.deref.ensures.value in (
      omega (arith, c.decreases, ap size is, ap size_of_parts same),
      (
        c.requires.phase,
        subst (HaveShortReads elements) (sym same) (subst (HasShortReads elements) is c.requires.reads),
      ),
    )

pub expr_in_phase-returns-in_ok-parts_in_phase-in-Node : goal.expr_in_phase-returns-in_ok-parts_in_phase-in-Node
expr_in_phase-returns-in_ok-parts_in_phase-in-Node t c =
    let phase = c.args.phase.now in
    let node = c.in-Node in
    let is = ap view_expr node.is ∙ view_Node node.op node.fmt node.parts in
    let same = ap view_exprs c.deref.ensures.value in
    c.calculation.ensures
    ∙ ap (calculation node.op node.fmt)
    (c.in_ok-parts_in_phase-in-Node.ensures ∙ ap (parts_in_phase phase.phases phase.elements phase.number) same)
    ∙ sym (ap (expr_in_phase phase.phases phase.elements phase.number) is)

pub parts_in_phase-expr_in_phase-requires : goal.parts_in_phase-expr_in_phase-requires
parts_in_phase-expr_in_phase-requires t c =
    let parts = c.args.parts.now in
    let i = c.loop-part.part-index in
    let x = c.part-item.result in (
      omega (arith, c.decreases, size_within parts i x c.loop-part-test.true c.part-item.is),
      (
        c.requires.phase,
        short_within c.args.phase.now.elements parts i x c.requires.reads c.loop-part-test.true c.part-item.is,
      ),
    )

pub parts_in_phase-returns : goal.parts_in_phase-returns
parts_in_phase-returns t c =
    let phase = c.args.phase.now in
    let parts = c.args.parts.now in
    let each = λ (x : FlatExpr). expr_in_phase phase.phases phase.elements phase.number (view_expr x) in
    ap parts_of (c.loop-part.invariant ∙ ap (map each) (take_all c.loop-part.part-index parts c.loop-part-test.false))
    ∙ parts_each phase.phases phase.elements phase.number parts
