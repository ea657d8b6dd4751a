use Rattle.std.proofs.Common.{w32}
use Rattle.bit_sets.proofs.Bits.{has_with}
use Rattle.bit_sets.proofs.set32.Set32.with.Goals as goal

pub returns : goal.returns
returns c = has_with w32 c.args.self.bits c.args.number c.requires
