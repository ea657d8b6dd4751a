use Rattle.std.proofs.Common.{◌≡◌, drop}
use Rattle.loop_expand.specs.Private.Elements.{view_elems, with_facts}
use Rattle.loop_expand.specs.Private.Facts.{groups_facts}
use Rattle.loop_expand.specs.Private.Groups.{view_groups}
use Rattle.loop_expand.specs.Private.Views.{view_scope}
use Rattle.loop_expand.proofs.item_facts.expand_groups.Given as goal

abbrev pub invariant-loop-group : goal.invariant-loop-group
invariant-loop-group l =
    with_facts (groups_facts (view_scope l.scope) (view_groups (drop l.group-index l.groups))) (view_elems l.elems)
    ≡ with_facts (groups_facts (view_scope l.scope) (view_groups l.groups)) (view_elems l.fn.elems)
