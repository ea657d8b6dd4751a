use Rattle.std.proofs.Common.{◌∙◌, ap, arith, length}
use Rattle.loop_expand.specs.Private.Groups.{view_groups}
use Rattle.loop_expand.specs.Private.Scopes.{view_signals, view_body, view_bodies}
use Rattle.loop_expand.proofs.Sites.{firsts_long, apart_of, sized_of, few_instances, have_bodies, total_small}
use Rattle.loop_expand.proofs.Sites.{instance_groups}
use Rattle.loop_expand.proofs.instances.expand_instance.Goals as goal

pub instance_body-body-requires-clause-bodies : goal.instance_body-body-requires-clause-bodies
instance_body-body-requires-clause-bodies c =
    have_bodies c.args.tables.now (view_bodies c.args.bodies.now) c.args.instances.now c.requires.of

pub first_of-requires : goal.first_of-requires
first_of-requires c =
    omega (
      arith,
      c.requires.number,
      ap length c.requires.firsts,
      firsts_long (view_bodies c.args.bodies.now) 0 c.args.instances.now,
    )

pub invariant_of-scope : goal.invariant_of-scope
invariant_of-scope c = record {
  apart = apart_of c.args.tables.now (view_bodies c.args.bodies.now) c.args.instances.now c.requires.of;
  known = have_bodies c.args.tables.now (view_bodies c.args.bodies.now) c.args.instances.now c.requires.of;
  sized = sized_of c.args.tables.now (view_bodies c.args.bodies.now) c.args.instances.now c.requires.of;
  few = total_small c.args.tables.now (view_bodies c.args.bodies.now) c.args.instances.now c.requires.of;
  long = ap length c.requires.firsts ∙ firsts_long (view_bodies c.args.bodies.now) 0 c.args.instances.now;
}

pub overflow_cast-scope : goal.overflow_cast-scope
overflow_cast-scope c =
    omega (
      arith,
      c.requires.number,
      few_instances c.args.tables.now (view_bodies c.args.bodies.now) c.args.instances.now c.requires.of,
    )

pub expand_groups-requires-clause-of : goal.expand_groups-requires-clause-of
expand_groups-requires-clause-of c =
    instance_groups _ c.requires.of (view_body c.instance_body-body.result.now) c.requires.firsts c.requires.number
    c.instance_body-body.ensures c.first_of.ensures
    (ap view_signals c.deref.ensures.value) _ (ap view_groups c.deref-2.ensures.value)
