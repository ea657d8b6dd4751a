use Rattle.std.proofs.Common.{◌≡◌, ◌++◌, drop, map}
use Rattle.type_rules.specs.TypedTree as typed
use Rattle.loop_expand.specs.Private.Groups as is
use Rattle.loop_expand.specs.Private.Groups.{view_ref}
use Rattle.loop_expand.proofs.groups.plain_items.Given as goal

abbrev pub invariant-loop-item : goal.invariant-loop-item
invariant-loop-item l =
    map view_ref l.plain.items ++ is.plain_items (typed.view_items (drop l.item-index l.items))
    ≡ is.plain_items (typed.view_items l.items)
