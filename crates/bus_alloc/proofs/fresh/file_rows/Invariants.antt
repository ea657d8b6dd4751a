use Rattle.bus_alloc.specs.Private.Fresh.{AreFreshFiles}
use Rattle.bus_alloc.proofs.fresh.file_rows.Given as goal

abbrev pub invariant-loop-number : goal.invariant-loop-number
invariant-loop-number l = AreFreshFiles l.buses l.number l.rows
