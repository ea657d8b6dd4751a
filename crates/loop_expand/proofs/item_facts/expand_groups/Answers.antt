use Rattle.std.proofs.Common.{◌∙◌, arith}
use Rattle.loop_expand.specs.Private.Facts.{group_facts}
use Rattle.loop_expand.specs.Private.Groups.{view_group}
use Rattle.loop_expand.specs.Private.Views.{view_scope}
use Rattle.loop_expand.proofs.FactSteps.{joined_more, item_at, joined_as_many}
use Rattle.loop_expand.proofs.item_facts.expand_groups.Goals as goal

pub loop-group-preserved : goal.loop-group-preserved
loop-group-preserved c =
    joined_more (group_facts (view_scope c.args.scope.now)) view_group c.args.groups.now c.loop-group.group-index
    c.group-item.result c.loop-group.elems c.expand_group.new.elems _ (omega arith) c.group-item.is
    c.in_ok-expand_group.ensures
    c.loop-group.invariant

pub expand_group-requires-clause-elements : goal.expand_group-requires-clause-elements
expand_group-requires-clause-elements c =
    joined_as_many (group_facts (view_scope c.args.scope.now)) view_group c.args.groups.now c.loop-group.group-index
    c.loop-group.elems c.args.elems.now c.loop-group.invariant ∙ c.requires.elements

pub expand_group-requires-clause-of : goal.expand_group-requires-clause-of
expand_group-requires-clause-of c =
    c.requires.of c.loop-group.group-index (view_group c.group-item.result)
    (item_at view_group c.args.groups.now c.loop-group.group-index c.group-item.result (omega arith) c.group-item.is)
