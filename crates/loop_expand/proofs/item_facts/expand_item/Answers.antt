use Rattle.std.proofs.Common.{◌∙◌, ap, subst}
use Rattle.silage_syntax.specs.Tree.{view_manifest, view_place}
use Rattle.type_rules.specs.TypedTree as typed
use Rattle.type_rules.specs.declared.typed.TypedItem.{TypedItem}
use Rattle.type_rules.proofs.TypedRows.{view_Loop}
use Rattle.loop_expand.specs.Private.Sites.{IsItemOf}
use Rattle.loop_expand.specs.Private.Views.{view_scope}
use Rattle.loop_expand.proofs.KnownItems.{equation_known, initial_known}
use Rattle.loop_expand.proofs.Sites.{no_loop_of}
use Rattle.loop_expand.proofs.item_facts.expand_item.Goals as goal

pub unreachable-requires : goal.unreachable-requires
unreachable-requires c =
    let at = c.in-Loop in
    no_loop_of (view_scope c.args.scope.now) c.args.env.now (typed.view_item c.args.item.now) at.index
    (view_manifest at.lo) (view_manifest at.hi) (typed.view_items at.items.items) c.requires.of
    (ap typed.view_item at.is ∙ view_Loop at.index at.lo at.hi at.items)

pub expand_equation-requires-clause-target : goal.expand_equation-requires-clause-target
expand_equation-requires-clause-target c =
    (equation_known (view_scope c.args.scope.now) c.args.env.now (view_place c.in-Equation.place)
    (typed.view_expr c.in-Equation.value)
    (subst (λ (x : TypedItem). IsItemOf (view_scope c.args.scope.now) c.args.env.now (typed.view_item x))
    c.in-Equation.is c.requires.of)).0

pub expand_equation-requires-clause-value : goal.expand_equation-requires-clause-value
expand_equation-requires-clause-value c =
    (equation_known (view_scope c.args.scope.now) c.args.env.now (view_place c.in-Equation.place)
    (typed.view_expr c.in-Equation.value)
    (subst (λ (x : TypedItem). IsItemOf (view_scope c.args.scope.now) c.args.env.now (typed.view_item x))
    c.in-Equation.is c.requires.of)).1

pub expand_initial-requires : goal.expand_initial-requires
expand_initial-requires c =
    let at = c.in-Initial in
    let known =
    initial_known (view_scope c.args.scope.now) c.args.env.now (view_place at.place) (view_manifest at.k) _
    (subst (λ (x : TypedItem). IsItemOf (view_scope c.args.scope.now) c.args.env.now (typed.view_item x)) at.is
    c.requires.of) in
    record { elements = c.requires.elements; target = known.0; sample = (known.1, known.2, known.3) }
