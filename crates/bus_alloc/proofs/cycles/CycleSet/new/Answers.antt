use Rattle.std.proofs.Common.{◌/◌, ◌%◌}
use Rattle.bus_alloc.proofs.Bits.{bit_of_none}
use Rattle.bus_alloc.proofs.cycles.CycleSet.new.Goals as goal

pub returns : goal.returns
returns c cycle = bit_of_none 64 (cycle / 64) (cycle % 64)
