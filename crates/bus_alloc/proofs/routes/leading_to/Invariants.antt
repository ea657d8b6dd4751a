use Rattle.bus_alloc.specs.Private.Rows.{LeadsTo}
use Rattle.bus_alloc.proofs.Loops.{IsSetUpTo}
use Rattle.bus_alloc.proofs.routes.leading_to.Given as goal

abbrev pub invariant-loop-b : goal.invariant-loop-b
invariant-loop-b l = IsSetUpTo (LeadsTo l.fn.buses l.fn.port) l.b l.set
