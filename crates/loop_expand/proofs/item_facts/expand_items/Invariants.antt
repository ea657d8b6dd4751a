use Rattle.std.proofs.Common.{◌≡◌, drop, map}
use Rattle.loop_expand.specs.Private.Elements.{view_elems, with_facts}
use Rattle.loop_expand.specs.Private.Facts.{turn_facts}
use Rattle.loop_expand.specs.Private.Groups.{view_ref}
use Rattle.loop_expand.specs.Private.Views.{view_scope}
use Rattle.loop_expand.proofs.item_facts.expand_items.Given as goal

abbrev pub invariant-loop-item : goal.invariant-loop-item
invariant-loop-item l =
    with_facts (turn_facts (view_scope l.scope) (map view_ref (drop l.item-index l.items)) l.env) (view_elems l.elems)
    ≡ with_facts (turn_facts (view_scope l.scope) (map view_ref l.items) l.env) (view_elems l.fn.elems)
