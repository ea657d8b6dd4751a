use Rattle.std.proofs.Common.{◌≡◌, replicate}
use Rattle.unit_assign.specs.Private.UnitSets.{none_of_32}
use Rattle.unit_assign.proofs.drivers.no_drivers.Given as goal

abbrev pub invariant-loop : goal.invariant-loop
invariant-loop l = l.table ≡ replicate l.counter none_of_32
