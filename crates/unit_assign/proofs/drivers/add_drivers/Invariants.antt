use Rattle.unit_assign.specs.Private.Drivers.{IsAddedTo}
use Rattle.unit_assign.proofs.drivers.add_drivers.Given as goal

abbrev pub invariant-loop-port : goal.invariant-loop-port
invariant-loop-port l = IsAddedTo l.drivers l.ports l.port-index l.fn.table l.table
