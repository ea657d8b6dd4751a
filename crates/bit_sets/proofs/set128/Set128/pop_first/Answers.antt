use Rattle.std.proofs.Common.{arith}
use Rattle.std.specs.Int.{w128}
use Rattle.bit_sets.proofs.Bits.{clear_lowest}
use Rattle.bit_sets.proofs.set128.Set128.pop_first.Goals as goal

pub returns-clause-first : goal.returns-clause-first
returns-clause-first c = clear_lowest w128 c.args.self.now.bits (omega arith) c.if-self-eq0.false
