use Rattle.bus_alloc.specs.Private.Fresh.{AreFreshUnits}
use Rattle.bus_alloc.proofs.fresh.unit_rows.Given as goal

abbrev pub invariant-loop-number : goal.invariant-loop-number
invariant-loop-number l = AreFreshUnits l.units l.buses l.number l.rows
