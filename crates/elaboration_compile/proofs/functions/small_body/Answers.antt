use Rattle.std.proofs.Common.{◌∙◌, ◌++◌, List, [], map, sym, ap, subst, length, arith}
use Rattle.silage_syntax.specs.Names.{decls}
use Rattle.silage_syntax.specs.Tree.{view, view_func, view_items}
use Rattle.elaboration_code.specs.declared.actions.Action.{Action as RustAction}
use Rattle.elaboration_code.specs.Actions.{Action, actions_of, view_action}
use Rattle.elaboration_code.specs.Loops.{AreDoneInside}
use Rattle.elaboration_code.specs.ItemActions.{actions_of_items}
use Rattle.elaboration_compile.proofs.InsideItems.{items_inside}
use Rattle.elaboration_compile.proofs.Callees.{length-signals_from}
use Rattle.element_rules.proofs.SomeElements.{no_more}
use Rattle.elaboration_compile.proofs.functions.small_body.Goals as goal

pub invariant_of-result-clause-few : goal.invariant_of-result-clause-few
invariant_of-result-clause-few c =
    let ds = decls (view_func c.args.func.now) in
    omega
    (arith, ap length c.in_ok-signals.ensures, length-signals_from 0 ds, no_more ds c.requires.sized, c.requires.few)

pub invariant_of-result-clause-inside : goal.invariant_of-result-clause-inside
invariant_of-result-clause-inside c =
    let p = view c.args.tops.now.program.now in
    let f = view_func c.args.func.now in
    let items = view_items c.deref-3.result.now in
    let made =
    c.in_ok-put_items.ensures
    ∙ ap (λ (front : List RustAction). map view_action front ++ actions_of_items p f [] items)
    c.new-actions.ensures.items in
    subst (λ (xs : List Action). AreDoneInside 0 (actions_of xs)) (sym made) (items_inside p f [] items)
