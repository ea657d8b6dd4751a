use Rattle.std.proofs.Common.{◌≡◌, length}
use Rattle.type_rules.specs.TypedTree.{view_expr}
use Rattle.fix_types.specs.Private.Choosing.{nested, view_pairs}
use Rattle.fix_types.proofs.nodes.nested.Given as goal

abbrev pub invariant-loop-condition : goal.invariant-loop-condition
invariant-loop-condition l =
    nested l.fmt (view_pairs l.pairs.items) (view_expr l.other)
    ≡ nested l.fmt (view_pairs l.fn.pairs.items) (view_expr l.fn.last)

abbrev pub decreases-loop-condition : goal.decreases-loop-condition
decreases-loop-condition l = length l.pairs.items
