-- A call adds the place of its function, a loop what its items call.
use Rattle.std.proofs.Common.{ap, sym, ◌∙◌, ◌++◌, refl}
use Rattle.silage_syntax.specs.Tree.{view_item, view_items}
use Rattle.name_rules.specs.Calls.{called, all_called}
use Rattle.name_rules.specs.Private.CallLists.{places}
use Rattle.name_check.proofs.Callees.{adds_none, item_added, items_added, loop_called, has_place, has_no_place, ends}
use Rattle.name_check.proofs.recursion.+items.Goals as goal

pub add_all_calls-loop-item-init : goal.add_all_calls-loop-item-init
add_all_calls-loop-item-init t c = adds_none _ _

pub add_all_calls-loop-item-preserved : goal.add_all_calls-loop-item-preserved
add_all_calls-loop-item-preserved t c =
    item_added _ _ _ _ _ _ c.item-item.result c.loop-item-test.true c.item-item.is c.loop-item.invariant
    c.in_ok-add_calls.ensures

pub add_all_calls-returns : goal.add_all_calls-returns
add_all_calls-returns t c = items_added _ _ _ _ _ c.loop-item-test.false c.loop-item.invariant

pub add_calls-returns-in_ok-push-in-Call : goal.add_calls-returns-in_ok-push-in-Call
add_calls-returns-in_ok-push-in-Call t c =
    let p = (c.in-Some.ensures.some c.in-Some.callee).0 refl in
    c.in_ok-push-in-Call.ensures.ok ∙ has_place c.args.tops.now c.in-Call.func c.args.calls.now c.in-Some.callee p
    ∙ ap (λ x. c.args.calls.now ++ places c.args.tops.now (called (view_item x))) (sym c.in-Call.is)

pub add_calls-returns-in_default : goal.add_calls-returns-in_default
add_calls-returns-in_default t c =
    let p = c.in_default.ensures.none.0 refl in
    has_no_place c.args.tops.now c.in-Call.func c.args.calls.now p
    ∙ ap (λ x. c.args.calls.now ++ places c.args.tops.now (called (view_item x))) (sym c.in-Call.is)

pub add_calls-returns-in-Loop : goal.add_calls-returns-in-Loop
add_calls-returns-in-Loop t c =
    let whole =
    ap (λ x. called (view_item x)) c.in-Loop.is
    ∙ loop_called c.in-Loop.index c.in-Loop.lo c.in-Loop.hi c.in-Loop.items c.in-Loop.at in
    let inner = ap (λ xs. all_called (view_items xs)) c.deref.ensures.value in
    ends _ _ c.add_all_calls.result
    (λ h. h ∙ ap (λ xs. c.args.calls.now ++ places c.args.tops.now xs) (inner ∙ sym whole)) c.add_all_calls.ensures
