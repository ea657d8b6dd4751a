use Rattle.std.proofs.Common.{◌∙◌, drop, arith}
use Rattle.loop_expand.specs.Private.Facts.{facts_from}
use Rattle.loop_expand.specs.Private.Scopes.{view_bodies}
use Rattle.loop_expand.proofs.FactSteps.{instances_more, as_many}
use Rattle.loop_expand.proofs.instances.expand_all.Goals as goal

pub loop-number-preserved : goal.loop-number-preserved
loop-number-preserved c =
    instances_more c.args.tables.now (view_bodies c.args.bodies.now) c.args.instances.now c.args.firsts.now
    c.loop-number.number c.loop-number.elems c.expand_instance.new.elems _ (omega arith)
    c.in_ok-expand_instance.ensures c.loop-number.invariant

pub expand_instance-requires-clause-elements : goal.expand_instance-requires-clause-elements
expand_instance-requires-clause-elements c =
    let facts = facts_from c.args.tables.now (view_bodies c.args.bodies.now) c.args.instances.now c.args.firsts.now in
    as_many (facts c.loop-number.number (drop c.loop-number.number c.args.instances.now)) (facts 0 c.args.instances.now)
    c.loop-number.elems c.args.elems.now c.loop-number.invariant ∙ c.requires.elements
