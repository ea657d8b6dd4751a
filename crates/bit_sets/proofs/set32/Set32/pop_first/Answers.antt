use Rattle.std.proofs.Common.{arith}
use Rattle.std.proofs.Common.{w32}
use Rattle.bit_sets.proofs.Bits.{clear_lowest}
use Rattle.bit_sets.proofs.set32.Set32.pop_first.Goals as goal

pub returns-clause-first : goal.returns-clause-first
returns-clause-first c = clear_lowest w32 c.args.self.now.bits (omega arith) c.if-self-eq0.false
