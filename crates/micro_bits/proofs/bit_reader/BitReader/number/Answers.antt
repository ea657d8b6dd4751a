use Rattle.std.proofs.Common.{◌≡◌, ℕ, ◌-◌, ◌*◌, List, length, arith}
use Rattle.micro_bits.proofs.BitWindow.{bits_left, bits_read, bits_missing, number_read, number_missing}
use Rattle.micro_bits.proofs.bit_reader.BitReader.number.Goals as goal

pub returns-then-count-clause-reads : goal.returns-then-count-clause-reads
returns-then-count-clause-reads c =
    number_missing c.args.count c.args.self.now
    (bits_missing c.args.count c.args.self.now (omega (arith, c.count.ensures.count, c.if-count.true)))

pub invariant_of-self : goal.invariant_of-self
invariant_of-self c =
    let bytes : List ℕ = c.self.inside.bytes.now in
    let at : ℕ = c.self.inside.at in
    let left : length c.args.self.now ≡ 8 * length bytes - at = bits_left bytes at c.args.self.now c.self.view_is in
    (omega (arith, c.count.ensures.count, c.if-count.false, left, c.self.invariant), c.self.invariant.1)

pub returns-clause-reads : goal.returns-clause-reads
returns-clause-reads c =
    number_read c.args.count c.peek-number.result c.args.self.now _ c.peek-number.ensures.bound
    (bits_read c.self.inside.bytes.now c.self.inside.at c.args.count c.peek-number.result c.args.self.now c.self.view_is
    (omega (arith, c.count.ensures.count, c.if-count.false)) c.peek-number.ensures.number)
