use Rattle.std.proofs.Common.{map}
use Rattle.silage_syntax.specs.Tree.{view_place}
use Rattle.type_rules.specs.TypedTree as typed
use Rattle.loop_expand.specs.Private.Views.{view_scope}
use Rattle.loop_expand.proofs.KnownItems.{call_known}
use Rattle.loop_expand.proofs.Sites.{call_of, child_there}
use Rattle.loop_expand.proofs.calls.call.Goals as goal

pub child-child-requires-clause-some : goal.child-child-requires-clause-some
child-child-requires-clause-some c =
    let scope = view_scope c.args.scope.now in
    let places = map view_place c.args.places.now in
    let args = map typed.view_expr c.args.args.now in
    let (func, is) = c.requires.of in
    child_there scope c.args.env.now places args c.args.at (call_of scope c.args.env.now places func args c.args.at is)

pub bind-requires-clause-known : goal.bind-requires-clause-known
bind-requires-clause-known c =
    let scope = view_scope c.args.scope.now in
    let places = map view_place c.args.places.now in
    let args = map typed.view_expr c.args.args.now in
    let (func, is) = c.requires.of in
    call_known scope c.args.env.now places args c.args.at (call_of scope c.args.env.now places func args c.args.at is)
    c.child-child.result c.child-child.ensures.is
