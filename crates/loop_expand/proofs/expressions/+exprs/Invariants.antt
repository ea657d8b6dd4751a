use Rattle.std.proofs.Common.{◌≡◌, drop, map}
use Rattle.type_rules.specs.TypedTree as typed
use Rattle.signal_graph.specs.Flat as flat
use Rattle.loop_expand.specs.Private.Facts.{flat_parts}
use Rattle.loop_expand.specs.Private.Rows.{parts_after, typed_exprs}
use Rattle.loop_expand.specs.Private.Views.{view_scope}
use Rattle.loop_expand.proofs.KnownExprs.{size_of, size_in}
use Rattle.loop_expand.proofs.expressions.+exprs.Given as goal

abbrev pub invariant-flat_parts-loop-part : goal.invariant-flat_parts-loop-part
invariant-flat_parts-loop-part l =
    parts_after (map flat.view_expr l.flats.items)
    (flat_parts (view_scope l.scope) l.env (typed_exprs (drop l.part-index l.parts)))
    ≡ flat_parts (view_scope l.scope) l.env (typed_exprs l.parts)

abbrev pub decreases-flat : goal.decreases-flat
decreases-flat l = size_of (typed.view_expr l.x.now)

abbrev pub decreases-flat_parts : goal.decreases-flat_parts
decreases-flat_parts l = size_in (typed_exprs l.parts.now)
