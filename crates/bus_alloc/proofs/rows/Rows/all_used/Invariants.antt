use Rattle.bus_alloc.proofs.Loops.{IsReadSoFar}
use Rattle.bus_alloc.proofs.rows.Rows.all_used.Given as goal

abbrev pub invariant-loop-bus : goal.invariant-loop-bus
invariant-loop-bus l = IsReadSoFar l.fn.self l.fn.buses l.index l.left l.all

abbrev pub decreases-loop-bus : goal.decreases-loop-bus
decreases-loop-bus l = l.left.bits
