use Rattle.std.proofs.Common.{arith, w32}
use Rattle.bit_sets.proofs.Bits.{clear_highest}
use Rattle.bit_sets.proofs.set32.Set32.pop_last.Goals as goal

pub returns-clause-last : goal.returns-clause-last
returns-clause-last c =
    clear_highest w32 c.args.self.now.bits (omega arith) c.ilog2-last.result (omega arith) c.ilog2-last.ensures.power_le
    c.ilog2-last.ensures.next_power_gt
