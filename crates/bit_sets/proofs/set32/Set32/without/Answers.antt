use Rattle.std.proofs.Common.{arith, w32}
use Rattle.bit_sets.proofs.Bits.{has_without}
use Rattle.bit_sets.proofs.set32.Set32.without.Goals as goal

pub returns : goal.returns
returns c = has_without w32 c.args.self.bits c.args.number c.requires (omega arith)
