use Rattle.std.proofs.Common.{◌≡◌, drop}
use Rattle.loop_expand.specs.Private.Scopes.{view_bodies, body_of}
use Rattle.loop_expand.proofs.lookups.body.Given as goal

abbrev pub invariant-loop-body : goal.invariant-loop-body
invariant-loop-body l =
    body_of (view_bodies (drop l.body-index l.bodies)) l.func ≡ body_of (view_bodies l.bodies) l.func
