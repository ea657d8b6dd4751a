use Rattle.unit_assign.specs.Private.Drivers.{AreDriversBefore}
use Rattle.unit_assign.proofs.drivers.all_drivers.Given as goal

abbrev pub invariant-loop-bus : goal.invariant-loop-bus
invariant-loop-bus l = AreDriversBefore l.datapath l.bus-index l.table
