use Rattle.std.proofs.Common.{◌≡◌, ◌<◌, ◌∙◌, ◌++◌, length, List, ap, sym, subst, arith}
use Rattle.silage_syntax.specs.Manifests.{Indices}
use Rattle.type_rules.specs.TypedTree as typed
use Rattle.type_rules.specs.declared.typed.TypedItem.{TypedItem}
use Rattle.type_rules.proofs.TypedRows.{view_Loop}
use Rattle.silage_syntax.specs.Tree.{view_manifest}
use Rattle.loop_expand.specs.Private.Turns.{indices_at, view_turns}
use Rattle.loop_expand.specs.Private.Groups.{Group, view_groups, HasBounds, HaveBoundsIn, groups_in, loop_groups}
use Rattle.loop_expand.proofs.Bounds.{size_of, size_in, smaller, bounded_at, inner_bounds}
use Rattle.loop_expand.proofs.FactSteps.{on_ok}
use Rattle.loop_expand.proofs.GroupRows.{loops_end, group_last, some_turns}
use Rattle.loop_expand.proofs.groups.+groups.Goals as goal

pub put_groups-returns : goal.put_groups-returns
put_groups-returns t c =
    let turns = view_turns c.args.turns in
    let items = c.args.items.now in
    let some = some_turns c.args.turns c.if-turns-eq0.false in
    let loops =
    loops_end turns items c.loop-item.item-index (view_groups c.loop-item.groups.items) _ (omega arith)
    c.loop-item.invariant in
    on_ok c.put_group.result
    (λ own.
    group_last turns some.0 some.1 (typed.view_items items) (view_groups c.args.groups.now.items)
    (view_groups c.loop-item.groups.items) (view_groups c.put_group.new.groups.items) some.2 loops own)
    c.put_group.ensures

pub put_loop-returns-in_ok-inner-in-Loop : goal.put_loop-returns-in_ok-inner-in-Loop
put_loop-returns-in_ok-inner-in-Loop t c =
    let turns = view_turns c.args.turns.now in
    let step =
    ap (λ (xs : List TypedItem). groups_in (view_turns c.in_ok-inner-in-Loop.inner) (typed.view_items xs))
    c.deref.ensures.value
    ∙ ap (λ (ts : List Indices). groups_in ts (typed.view_items c.in-Loop.items.items)) c.in_ok-inner-in-Loop.ensures
    ∙ sym (ap (λ (x : TypedItem). loop_groups turns (typed.view_item x)) c.in-Loop.is
    ∙ ap (loop_groups turns) (view_Loop c.in-Loop.index c.in-Loop.lo c.in-Loop.hi c.in-Loop.items)) in
    on_ok c.put_groups.result (λ h. h ∙ ap (λ (gs : List Group). view_groups c.args.groups.now.items ++ gs) step)
    c.put_groups.ensures

pub put_groups-put_loop-requires : goal.put_groups-put_loop-requires
put_groups-put_loop-requires t c =
    let items = c.args.items.now in
    let i = c.loop-item.item-index in
    let x = c.item-item.result in
    let inside : i < length items = omega arith in
    let whole : size_in (typed.view_items items) ≡ t = c.decreases in
    let less : size_of (typed.view_item x) < t = omega (arith, smaller items i x inside c.item-item.is) in (
      less,
      (
        omega (arith, c.if-turns-eq0.false),
        λ k below. bounded_at (indices_at c.args.turns k) items i x inside c.item-item.is (c.requires k below),
      ),
    )

pub put_loop-put_groups-requires : goal.put_loop-put_groups-requires
put_loop-put_groups-requires t c =
    let at = c.in-Loop in
    let turns = c.args.turns.now in
    let inner = c.in_ok-inner-in-Loop.inner in
    let is = ap typed.view_item at.is ∙ view_Loop at.index at.lo at.hi at.items in
    let whole : size_of (typed.view_item c.args.item.now) ≡ t = c.decreases in
    let same = ap typed.view_items c.deref.ensures.value in
    let less : size_in (typed.view_items c.deref.result.now) < t = omega (arith, ap size_of is, ap size_in same) in (
      less,
      subst (HaveBoundsIn inner) (sym same)
          (inner_bounds turns inner at.index (view_manifest at.lo) (view_manifest at.hi)
          (typed.view_items at.items.items)
          c.in_ok-inner-in-Loop.ensures
          (λ k below. subst (HasBounds (indices_at turns k)) is (c.requires.bounds k below))),
    )
