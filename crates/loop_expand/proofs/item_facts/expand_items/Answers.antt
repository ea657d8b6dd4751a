use Rattle.std.proofs.Common.{◌∙◌, arith}
use Rattle.loop_expand.specs.Private.Facts.{item_facts}
use Rattle.loop_expand.specs.Private.Groups.{view_ref}
use Rattle.loop_expand.specs.Private.Views.{view_scope}
use Rattle.loop_expand.proofs.FactSteps.{joined_more, item_at, joined_as_many}
use Rattle.loop_expand.proofs.item_facts.expand_items.Goals as goal

pub loop-item-preserved : goal.loop-item-preserved
loop-item-preserved c =
    joined_more (item_facts (view_scope c.args.scope.now) c.args.env.now) view_ref c.args.items.now
    c.loop-item.item-index c.item-item.result c.loop-item.elems c.expand_item.new.elems _ (omega arith) c.item-item.is
    c.in_ok-expand_item.ensures
    c.loop-item.invariant

pub expand_item-requires-clause-elements : goal.expand_item-requires-clause-elements
expand_item-requires-clause-elements c =
    joined_as_many (item_facts (view_scope c.args.scope.now) c.args.env.now) view_ref c.args.items.now
    c.loop-item.item-index c.loop-item.elems c.args.elems.now c.loop-item.invariant ∙ c.requires.elements

pub expand_item-requires-clause-of : goal.expand_item-requires-clause-of
expand_item-requires-clause-of c =
    c.requires.of c.loop-item.item-index (view_ref c.item-item.result)
    (item_at view_ref c.args.items.now c.loop-item.item-index c.item-item.result (omega arith) c.item-item.is)
