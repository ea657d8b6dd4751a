use Rattle.std.proofs.Common.{◌≡◌, ◌++◌, drop, map}
use Rattle.type_rules.specs.TypedTree.{view_func}
use Rattle.loop_expand.specs.Private.Scopes.{view_bodies, bodies_for}
use Rattle.loop_expand.proofs.functions.bodies.Given as goal

abbrev pub invariant-loop-func : goal.invariant-loop-func
invariant-loop-func l =
    view_bodies l.bodies.items ++ bodies_for l.instances (map view_func (drop l.func-index l.funcs))
    ≡ bodies_for l.instances (map view_func l.funcs)
