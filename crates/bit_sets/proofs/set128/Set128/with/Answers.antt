use Rattle.std.specs.Int.{w128}
use Rattle.bit_sets.proofs.Bits.{has_with}
use Rattle.bit_sets.proofs.set128.Set128.with.Goals as goal

pub returns : goal.returns
returns c = has_with w128 c.args.self.bits c.args.number c.requires
