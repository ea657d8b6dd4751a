use Rattle.std.proofs.Common.{◌≡◌, ℕ, ◌-◌, ◌*◌, ◌^◌, ◌%◌, List, length, take, sym, ap, ◌∙◌, arith}
use Rattle.micro_bits.proofs.BitWindow.{peeked, peeked_below, bits_left}
use Rattle.micro_bits.proofs.bit_reader.BitReader.peek.Goals as goal

pub returns-clause-number : goal.returns-clause-number
returns-clause-number c =
    let bytes : List ℕ = c.self.inside.bytes.now in
    let at : ℕ = c.self.inside.at in
    let left : length c.args.self.now ≡ 8 * length bytes - at = bits_left bytes at c.args.self.now c.self.view_is in
    ap (take c.args.count) (sym c.self.view_is)
    ∙ peeked bytes at c.args.count c.window.result
    (omega (arith, c.requires.there, left, c.self.invariant)) c.requires.few c.window.ensures

pub returns-clause-bound : goal.returns-clause-bound
returns-clause-bound c =
    peeked_below c.args.count (c.window.result * 2 ^ (c.self.inside.at % 8)) (omega (arith, c.requires.few))
