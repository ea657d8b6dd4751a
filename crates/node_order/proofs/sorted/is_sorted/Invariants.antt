use Rattle.node_order.specs.Private.Sorted.{IsSorted}
use Rattle.node_order.proofs.sorted.is_sorted.Given as goal

abbrev pub invariant-loop-v : goal.invariant-loop-v
invariant-loop-v l = IsSorted l.nodes l.v
