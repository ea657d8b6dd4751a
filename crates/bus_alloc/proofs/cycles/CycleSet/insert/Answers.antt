use Rattle.std.proofs.Common.{arith}
use Rattle.bus_alloc.proofs.Bits.{set_bit_same, set_bit_other}
use Rattle.bus_alloc.proofs.cycles.CycleSet.insert.Goals as goal

pub returns-clause-same : goal.returns-clause-same
returns-clause-same c = set_bit_same c.args.self.now.words c.args.cycle (omega (arith, c.args.self.now.full))

pub returns-clause-others : goal.returns-clause-others
returns-clause-others c d = set_bit_other c.args.self.now.words c.args.cycle d (omega (arith, c.args.self.now.full))
