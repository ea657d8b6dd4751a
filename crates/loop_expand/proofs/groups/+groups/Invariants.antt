use Rattle.std.proofs.Common.{◌≡◌, ◌++◌, drop}
use Rattle.type_rules.specs.TypedTree as typed
use Rattle.loop_expand.specs.Private.Turns.{view_turns}
use Rattle.loop_expand.specs.Private.Groups.{view_groups, loops_groups}
use Rattle.loop_expand.proofs.Bounds.{size_of, size_in}
use Rattle.loop_expand.proofs.groups.+groups.Given as goal

abbrev pub invariant-put_groups-loop-item : goal.invariant-put_groups-loop-item
invariant-put_groups-loop-item l =
    view_groups l.groups.items ++ loops_groups (view_turns l.turns) (typed.view_items (drop l.item-index l.items))
    ≡ view_groups l.fn.groups.items ++ loops_groups (view_turns l.turns) (typed.view_items l.items)

abbrev pub decreases-put_loop : goal.decreases-put_loop
decreases-put_loop l = size_of (typed.view_item l.item.now)

abbrev pub decreases-put_groups : goal.decreases-put_groups
decreases-put_groups l = size_in (typed.view_items l.items.now)
