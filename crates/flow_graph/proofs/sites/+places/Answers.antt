-- An operation has the places of its parts, and then its own.
use Rattle.std.proofs.Common.{◌-◌, ap, sym, subst, ◌∙◌, arith, take, map, List}
use Rattle.std.proofs.lemmas.List.{take_all}
use Rattle.signal_graph.specs.declared.flat.FlatExpr.{FlatExpr}
use Rattle.signal_graph.specs.Flat.{view_expr, Expr, calculation}
use Rattle.signal_graph.specs.Expressions.{parts_of, view_exprs}
use Rattle.flow_graph.specs.declared.sites.Operand.TheVariants.{Place}
use Rattle.flow_graph.specs.Private.Sites.{AddsParts, AddsPlaces}
use Rattle.signal_graph.proofs.Rows.{view_Node}
use Rattle.flow_graph.proofs.SiteLists.{exprs_more}
use Rattle.flow_graph.proofs.SiteSteps.{parts_none, part_more, placed_length, calculated}
use Rattle.flow_graph.proofs.sites.+places.Goals as goal

pub add_parts-loop-part-init : goal.add_parts-loop-part-init
add_parts-loop-part-init t c = record { adds = parts_none _ _ _ _ c.new-operands.ensures; inside = c.requires }

pub add_parts-loop-part-preserved : goal.add_parts-loop-part-preserved
add_parts-loop-part-preserved t c =
    let more = part_more c.args.sites.now c.loop-part.sites c.add_places.new.sites c.args.elem c.args.start c.requires
    (map view_expr (take c.loop-part.part-index c.args.parts.now)) (view_expr c.part-item.result) _ _ _
    c.loop-part.invariant.adds c.in_ok-operand.ensures c.in_ok-push.ensures.ok in
    let longer = placed_length _ _ _ _ _ _ c.in_ok-operand.ensures in
    let inside = c.loop-part.invariant.inside in
    record {
      adds =
          subst (λ (xs : List Expr).
          AddsParts c.args.sites.now c.args.elem c.args.start (parts_of xs) c.add_places.new.sites c.push.new.self)
          (sym
          (exprs_more c.args.parts.now c.loop-part.part-index c.part-item.result c.loop-part-test.true c.part-item.is))
          more;
      inside = omega (arith, longer, inside);
    }

pub add_parts-returns : goal.add_parts-returns
add_parts-returns t c =
    subst (λ (xs : List FlatExpr).
    AddsParts c.args.sites.now c.args.elem c.args.start (view_exprs xs) c.loop-part.sites c.loop-part.operands)
    (take_all c.loop-part.part-index c.args.parts.now c.loop-part-test.false) c.loop-part.invariant.adds

pub add_places-returns-in_ok-add_site-in-Node : goal.add_places-returns-in_ok-add_site-in-Node
add_places-returns-in_ok-add_site-in-Node t c =
    let parts =
    subst (λ (xs : List FlatExpr).
    AddsParts c.args.sites.now c.args.elem c.args.start (view_exprs xs) c.add_parts.new.sites
    c.in_ok-operands-in-Node.operands)
    c.deref.ensures.value c.in_ok-operands-in-Node.ensures in
    let whole =
    calculated c.args.sites.now c.add_parts.new.sites c.add_site-in-Node.new.sites c.args.elem c.args.start
    c.requires c.in-Node.op c.in-Node.fmt _ _ parts c.in_ok-add_site-in-Node.ensures in
    let same = view_Node c.in-Node.op c.in-Node.fmt c.in-Node.parts in
    subst (λ (x : Expr).
    AddsPlaces c.args.sites.now c.args.elem c.args.start x c.add_site-in-Node.new.sites
    (Place (c.len.result - c.args.start)))
    (sym (ap view_expr c.in-Node.is ∙ same))
    (subst (λ n.
    AddsPlaces c.args.sites.now c.args.elem c.args.start
    (calculation c.in-Node.op c.in-Node.fmt (view_exprs c.in-Node.parts.items)) c.add_site-in-Node.new.sites
    (Place (n - c.args.start)))
    (sym c.len.ensures) whole)
