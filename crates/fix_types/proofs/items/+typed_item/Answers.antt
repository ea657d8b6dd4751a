use Rattle.std.proofs.Common.{◌++◌, List, refl, map, ap}
use Rattle.silage_syntax.specs.Tree.{view_items}
use Rattle.type_rules.specs.TypedTree.{view_item}
use Rattle.type_rules.specs.declared.typed.TypedItem.{TypedItem as RustTypedItem}
use Rattle.fix_types.specs.Private.ItemLists.{typed_list}
use Rattle.fix_types.specs.Private.Scopes.{program_of, function_of}
use Rattle.fix_types.proofs.ItemSteps.{items_named, items_sound, items_typed, inner_fails, loop_typed}
use Rattle.fix_types.proofs.items.+typed_item.Goals as goal

pub returns-in-Call : goal.returns-in-Call
returns-in-Call t c = rw (c.in-Call.is, ← c.deref.ensures.value, ← c.deref-in-Call.ensures.value) c.call.ensures

pub loop-item-init : goal.loop-item-init
loop-item-init t c =
    let p = program_of c.args.scope.now in
    let f = function_of c.args.scope.now in
    let at = c.in-Loop in
    let items = c.as_slice-items.result.now in
    let is = c.as_slice-items.ensures.value in
    record {
      names = items_named p f c.args.item.now c.requires.typed at.index at.lo at.hi at.items at.at at.is items is;
      sound = items_sound c.args.item.now c.requires.sound at.index at.lo at.hi at.items at.at at.is items is;
      met = refl;
      typed =
          ap (λ (xs : List RustTypedItem). map view_item xs ++ typed_list p f (view_items items))
          c.in_ok-all-in-Loop.ensures.items;
    }

pub returns-in_err-typed_item-in-Loop : goal.returns-in_err-typed_item-in-Loop
returns-in_err-typed_item-in-Loop t c =
    let at = c.in-Loop in
    inner_fails (program_of c.args.scope.now) (function_of c.args.scope.now) c.args.item.now at.index at.lo at.hi
    at.items at.at at.is c.as_slice-items.result.now c.as_slice-items.ensures.value
    c.loop-item.item-index c.loop-item.invariant.met c.item-item.result c.loop-item-test.true c.item-item.is
    c.from_residual-in_err-typed_item-in-Loop.result c.in_err-typed_item-in-Loop.field-0.0
    c.from_residual-in_err-typed_item-in-Loop.ensures.1 c.in_err-typed_item-in-Loop.ensures

pub returns-in_ok-looped-in-Loop : goal.returns-in_ok-looped-in-Loop
returns-in_ok-looped-in-Loop t c =
    let p = program_of c.args.scope.now in
    let f = function_of c.args.scope.now in
    let at = c.in-Loop in
    let items = c.as_slice-items.result.now in
    let all =
    items_typed p f items c.loop-item.item-index c.loop-item.invariant.met c.loop-item.all c.loop-item-test.false
    c.loop-item.invariant.typed in
    loop_typed p f c.args.item.now at.index at.lo at.hi at.items at.at at.is items c.as_slice-items.ensures.value
    c.loop-item.all.items c.in_ok-looped-in-Loop.field-0 all.0 all.1 c.in_ok-looped-in-Loop.ensures
