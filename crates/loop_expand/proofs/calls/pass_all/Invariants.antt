use Rattle.std.proofs.Common.{◌≡◌, drop, map}
use Rattle.type_rules.specs.TypedTree as typed
use Rattle.loop_expand.specs.Private.Elements.{view_elems, with_facts}
use Rattle.loop_expand.specs.Private.Facts.{all_passed}
use Rattle.loop_expand.specs.Private.Scopes.{view_signals}
use Rattle.loop_expand.specs.Private.Views.{view_scope}
use Rattle.loop_expand.proofs.calls.pass_all.Given as goal

abbrev pub invariant-loop-k : goal.invariant-loop-k
invariant-loop-k l =
    with_facts
    (all_passed (view_scope l.scope) l.env l.first (view_signals (drop l.k l.params))
    (map typed.view_expr (drop l.k l.args))) (view_elems l.elems)
    ≡ with_facts (all_passed (view_scope l.scope) l.env l.first (view_signals l.params) (map typed.view_expr l.args))
    (view_elems l.fn.elems)
