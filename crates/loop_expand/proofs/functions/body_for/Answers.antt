use Rattle.std.proofs.Common.{◌≡◌, ◌+◌, [], refl, ap, ap₂, subst, ◌∙◌, ◌++◌, List}
use Rattle.type_rules.specs.TypedTree.{view_func, view_items}
use Rattle.type_rules.specs.declared.typed.TypedItem.{TypedItem}
use Rattle.silage_syntax.specs.declared.tree.Decl.{Decl}
use Rattle.loop_expand.specs.Private.Groups.{groups_of, view_groups}
use Rattle.loop_expand.specs.Private.Scopes.{Signal, signals_from, view_signals}
use Rattle.element_rules.specs.ElementRules.{elements_of}
use Rattle.loop_expand.proofs.FactSteps.{body_made}
use Rattle.loop_expand.proofs.functions.body_for.Goals as goal

pub returns : goal.returns
returns c =
    let f = c.args.func.now in
    let none = ap view_signals c.new-signals.ensures.items in
    let none_too = ap view_signals c.new-results.ensures.items in
    body_made (view_func f) [] (view_signals c.put_signals.new.signals.items)
    (view_signals c.put_signals-3.new.signals.items) (view_signals c.put_signals-4.new.signals.items)
    (view_signals c.put_signals-2.new.signals.items)
    c.in_ok-first.first c.in_ok-next.next c.in_ok-size.size (view_groups c.in_ok-groups.groups.items) refl
    (c.in_ok-first.ensures.signals
    ∙ ap₂ (λ (xs : List Signal) (ds : List Decl). xs ++ signals_from 0 ds) none c.deref.ensures)
    (c.in_ok-first.ensures.next ∙ ap (λ (ds : List Decl). 0 + elements_of ds) c.deref.ensures)
    (c.in_ok-put_signals.ensures.signals
    ∙ ap₂ (λ (xs : List Signal) (ds : List Decl). xs ++ signals_from c.in_ok-first.first ds) none_too
    c.deref-2.ensures)
    (c.in_ok-next.ensures.signals
    ∙ ap (λ (ds : List Decl). view_signals c.put_signals.new.signals.items ++ signals_from c.in_ok-first.first ds)
    c.deref-3.ensures)
    (c.in_ok-next.ensures.next ∙ ap (λ (ds : List Decl). c.in_ok-first.first + elements_of ds) c.deref-3.ensures)
    (c.in_ok-size.ensures.signals
    ∙ ap (λ (ds : List Decl). view_signals c.put_signals-3.new.signals.items ++ signals_from c.in_ok-next.next ds)
    c.deref-4.ensures)
    (c.in_ok-size.ensures.next ∙ ap (λ (ds : List Decl). c.in_ok-next.next + elements_of ds) c.deref-4.ensures)
    (subst (λ (xs : List TypedItem). view_groups c.in_ok-groups.groups.items ≡ groups_of (view_items xs))
    c.deref-5.ensures c.in_ok-groups.ensures)
