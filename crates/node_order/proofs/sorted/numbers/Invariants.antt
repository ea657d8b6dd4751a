use Rattle.node_order.specs.Private.Sorted.{AreNumbers}
use Rattle.node_order.proofs.sorted.numbers.Given as goal

abbrev pub invariant-loop-v : goal.invariant-loop-v
invariant-loop-v l = AreNumbers l.v l.numbers
