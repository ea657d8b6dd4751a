use Rattle.std.proofs.Common.{◌≡◌, ◌++◌, ◌+◌, drop}
use Rattle.loop_expand.specs.Private.Scopes.{view_bodies, firsts_from, total_of}
use Rattle.loop_expand.proofs.instances.firsts.Given as goal

abbrev pub invariant-loop-instance : goal.invariant-loop-instance
invariant-loop-instance l = record {
  rest : l.firsts.items ++ firsts_from (view_bodies l.bodies) l.next (drop l.instance-index l.instances)
      ≡ firsts_from (view_bodies l.bodies) 0 l.instances;
  few : l.next + total_of (view_bodies l.bodies) (drop l.instance-index l.instances)
      ≡ total_of (view_bodies l.bodies) l.instances;
}
