use Rattle.bus_alloc.specs.Private.Fresh.{AreFreshBuses}
use Rattle.bus_alloc.proofs.fresh.bus_rows.Given as goal

abbrev pub invariant-loop : goal.invariant-loop
invariant-loop l = AreFreshBuses l.counter l.rows
