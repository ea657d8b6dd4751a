use Rattle.node_order.proofs.Searches.{IsUnder, remaining}
use Rattle.node_order.proofs.search.place.Given as goal

abbrev pub invariant-loop-v : goal.invariant-loop-v
invariant-loop-v l = IsUnder l.nodes l.root l.fn.search l.stack.items l.search

abbrev pub decreases-loop-v : goal.decreases-loop-v
decreases-loop-v l = remaining l.search
