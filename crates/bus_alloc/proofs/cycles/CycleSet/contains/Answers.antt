use Rattle.std.proofs.Common.{arith, get_or, ◌/◌, ◌%◌}
use Rattle.bus_alloc.proofs.Bits.{has_bit}
use Rattle.bus_alloc.proofs.cycles.CycleSet.contains.Goals as goal

pub returns : goal.returns
returns c = has_bit (get_or c.args.self.now.words (c.args.cycle / 64) 0) (c.args.cycle % 64) (omega arith)
