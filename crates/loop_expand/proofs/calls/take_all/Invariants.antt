use Rattle.std.proofs.Common.{◌≡◌, drop, map}
use Rattle.silage_syntax.specs.Tree.{view_place}
use Rattle.loop_expand.specs.Private.Elements.{view_elems, with_facts}
use Rattle.loop_expand.specs.Private.Facts.{all_taken}
use Rattle.loop_expand.specs.Private.Scopes.{view_signals}
use Rattle.loop_expand.specs.Private.Views.{view_scope}
use Rattle.loop_expand.proofs.calls.take_all.Given as goal

abbrev pub invariant-loop-k : goal.invariant-loop-k
invariant-loop-k l =
    with_facts
    (all_taken (view_scope l.scope) l.env l.first (view_signals (drop l.k l.results))
    (map view_place (drop l.k l.places))) (view_elems l.elems)
    ≡ with_facts (all_taken (view_scope l.scope) l.env l.first (view_signals l.results) (map view_place l.places))
    (view_elems l.fn.elems)
