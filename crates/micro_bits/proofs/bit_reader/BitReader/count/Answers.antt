use Rattle.std.proofs.Common.{sym}
use Rattle.micro_bits.proofs.BitWindow.{bits_left}
use Rattle.micro_bits.proofs.bit_reader.BitReader.count.Goals as goal

pub returns-clause-count : goal.returns-clause-count
returns-clause-count c = sym (bits_left c.self.inside.bytes.now c.self.inside.at c.args.self.now c.self.view_is)
