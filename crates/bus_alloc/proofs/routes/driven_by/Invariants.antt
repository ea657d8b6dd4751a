use Rattle.bus_alloc.specs.Private.Rows.{CanDrive}
use Rattle.bus_alloc.proofs.Loops.{IsSetUpTo}
use Rattle.bus_alloc.proofs.routes.driven_by.Given as goal

abbrev pub invariant-loop-b : goal.invariant-loop-b
invariant-loop-b l = IsSetUpTo (CanDrive l.fn.buses l.fn.unit) l.b l.set
