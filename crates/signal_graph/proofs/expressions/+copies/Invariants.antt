use Rattle.std.proofs.Common.{◌≡◌, map, take}
use Rattle.signal_graph.specs.Flat.{view_expr}
use Rattle.signal_graph.proofs.expressions.+copies.Given as goal

abbrev pub invariant-part_copies-loop-part : goal.invariant-part_copies-loop-part
invariant-part_copies-loop-part l = map view_expr l.copies.items ≡ map view_expr (take l.part-index l.parts)
