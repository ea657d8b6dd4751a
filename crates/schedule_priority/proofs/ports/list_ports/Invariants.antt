use Rattle.schedule_priority.proofs.PortSets.{IsListing}
use Rattle.schedule_priority.proofs.ports.list_ports.Given as goal

abbrev pub invariant-loop-first : goal.invariant-loop-first
invariant-loop-first l = IsListing l.fn.set.bits l.left.bits l.ports.items

abbrev pub decreases-loop-first : goal.decreases-loop-first
decreases-loop-first l = l.left.bits
