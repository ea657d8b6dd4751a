use Rattle.std.proofs.Common.{◌≡◌, ◌+◌, ◌-◌, map}
use Rattle.std.specs.List.{range_with_len}
use Rattle.loop_expand.specs.Private.Elements.{view_elems, with_facts}
use Rattle.loop_expand.specs.Private.Facts.{joined, turn_facts, group_facts}
use Rattle.loop_expand.specs.Private.Groups.{view_ref, view_group}
use Rattle.loop_expand.specs.Private.Views.{view_scope}
use Rattle.loop_expand.specs.Private.Turns.{indices_at}
use Rattle.loop_expand.proofs.item_facts.expand_group.Given as goal

abbrev pub invariant-loop-k : goal.invariant-loop-k
invariant-loop-k l =
    with_facts
    (joined (turn_facts (view_scope l.scope) (map view_ref l.group.items.items))
    (map (indices_at l.group.turns) (range_with_len (0 + l.k) (l.group.turns.count - l.k)))) (view_elems l.elems)
    ≡ with_facts (group_facts (view_scope l.scope) (view_group l.group)) (view_elems l.fn.elems)
