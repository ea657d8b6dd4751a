use Rattle.bit_sets.proofs.Bits.{has_intersection}
use Rattle.bit_sets.proofs.set32.Set32.intersection.Goals as goal

pub returns : goal.returns
returns c = has_intersection c.args.self.bits c.args.other.bits
