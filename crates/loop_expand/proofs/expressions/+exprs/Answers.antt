use Rattle.std.proofs.Common.{◌≡◌, ◌<◌, length, List, ap, ap₂, sym, subst, ◌∙◌, arith}
use Rattle.type_rules.specs.TypedTree as typed
use Rattle.type_rules.specs.declared.typed.TypedExpr.{TypedExpr}
use Rattle.type_rules.proofs.TypedRows.{view_Node}
use Rattle.signal_graph.specs.Flat.{calculation}
use Rattle.loop_expand.specs.Private.Facts.{flat_of, flat_parts}
use Rattle.loop_expand.specs.Private.Known.{IsKnownExpr, AreKnownParts}
use Rattle.loop_expand.specs.Private.Rows.{typed_exprs}
use Rattle.loop_expand.specs.Private.Views.{view_scope}
use Rattle.loop_expand.proofs.FactSteps.{flats_more, flats_end}
use Rattle.loop_expand.proofs.KnownExprs.{size_of, size_in, smaller, known_at}
use Rattle.loop_expand.proofs.expressions.+exprs.Goals as goal

pub flat-returns-in_ok-flat_parts-in-Node : goal.flat-returns-in_ok-flat_parts-in-Node
flat-returns-in_ok-flat_parts-in-Node t c =
    let scope = view_scope c.args.scope.now in
    let env = c.args.env.now in
    c.calculation.ensures
    ∙ ap₂ (calculation c.in-Node.op) c.format-fmt.ensures
    (c.in_ok-flat_parts-in-Node.ensures
    ∙ ap (λ (xs : List TypedExpr). flat_parts scope env (typed_exprs xs)) c.deref.ensures.value)
    ∙ sym (ap (λ (x : TypedExpr). flat_of scope env (typed.view_expr x)) c.in-Node.is
    ∙ ap (flat_of scope env) (view_Node c.in-Node.op c.in-Node.fmt c.in-Node.parts c.in-Node.amount))

pub flat_parts-loop-part-preserved : goal.flat_parts-loop-part-preserved
flat_parts-loop-part-preserved t c =
    flats_more (view_scope c.args.scope.now) c.args.env.now c.args.parts.now _ c.loop-part.flats.items
    c.push.new.self.items c.in_ok-flat.field-0 c.loop-part.part-index c.part-item.result (omega arith) c.part-item.is
    c.in_ok-flat.ensures c.in_ok-push.ensures.items c.loop-part.invariant

pub flat_parts-returns : goal.flat_parts-returns
flat_parts-returns t c =
    flats_end (view_scope c.args.scope.now) c.args.env.now c.args.parts.now _ c.loop-part.flats.items
    c.loop-part.part-index (omega arith) c.loop-part.invariant

pub flat-flat_parts-requires : goal.flat-flat_parts-requires
flat-flat_parts-requires t c =
    let at = c.in-Node in
    let is = ap typed.view_expr at.is ∙ view_Node at.op at.fmt at.parts at.amount in
    let whole : size_of (typed.view_expr c.args.x.now) ≡ t = c.decreases in
    let same = ap typed_exprs c.deref.ensures.value in
    let less : size_in (typed_exprs c.deref.result.now) < t = omega (arith, ap size_of is, ap size_in same) in
    let known = subst (IsKnownExpr (view_scope c.args.scope.now) c.args.env.now) is c.requires in
    (less, subst (AreKnownParts (view_scope c.args.scope.now) c.args.env.now) (sym same) known.1)

pub flat_parts-flat-requires : goal.flat_parts-flat-requires
flat_parts-flat-requires t c =
    let parts = c.args.parts.now in
    let i = c.loop-part.part-index in
    let x = c.part-item.result in
    let inside : i < length parts = omega arith in
    let whole : size_in (typed_exprs parts) ≡ t = c.decreases in
    let less : size_of (typed.view_expr x) < t = omega (arith, smaller parts i x inside c.part-item.is) in
    (less, known_at (view_scope c.args.scope.now) c.args.env.now parts i x inside c.part-item.is c.requires)
