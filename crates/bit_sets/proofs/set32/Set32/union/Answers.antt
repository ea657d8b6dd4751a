use Rattle.bit_sets.proofs.Bits.{has_union}
use Rattle.bit_sets.proofs.set32.Set32.union.Goals as goal

pub returns : goal.returns
returns c = has_union c.args.self.bits c.args.other.bits
