use Rattle.std.proofs.Common.{◌≡◌, ◌++◌, drop}
use Rattle.loop_expand.specs.Private.Elements.{types_of}
use Rattle.loop_expand.specs.Private.Scopes.{view_bodies}
use Rattle.loop_expand.proofs.elements.all_types.Given as goal

abbrev pub invariant-loop-instance : goal.invariant-loop-instance
invariant-loop-instance l =
    l.types ++ types_of (view_bodies l.bodies) (drop l.instance-index l.instances)
    ≡ types_of (view_bodies l.bodies) l.instances
