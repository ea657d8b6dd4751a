use Rattle.std.proofs.Common.{ap, length, arith}
use Rattle.signal_graph.specs.Flat.{view_elem}
use Rattle.loop_expand.specs.Private.Scopes.{view_bodies}
use Rattle.loop_expand.proofs.FactSteps.{map_long}
use Rattle.loop_expand.proofs.FlatMade.{first_long}
use Rattle.loop_expand.proofs.Sites.{have_bodies, total_small, all_typed}
use Rattle.loop_expand.proofs.program.all_elements.Goals as goal

pub firsts-requires : goal.firsts-requires
firsts-requires c = record {
  bodies = have_bodies c.args.tables.now (view_bodies c.args.bodies.now) c.args.instances.now c.requires.of;
  few = total_small c.args.tables.now (view_bodies c.args.bodies.now) c.args.instances.now c.requires.of;
}

pub all_types-requires : goal.all_types-requires
all_types-requires c = have_bodies c.args.tables.now (view_bodies c.args.bodies.now) c.args.instances.now c.requires.of

pub expand_all-requires-clause-elements : goal.expand_all-requires-clause-elements
expand_all-requires-clause-elements c =
    let types = all_typed c.args.tables.now (view_bodies c.args.bodies.now) c.args.instances.now c.requires.of in
    let begun = ap length c.in_ok-elems.ensures in
    let first = first_long c.args.inputs 0 c.deref.result.now in
    omega (
      arith,
      types,
      begun,
      first,
      map_long view_elem c.in_ok-elems.elems.items,
      ap length c.deref.ensures,
      ap length c.in_ok-types.ensures,
    )
