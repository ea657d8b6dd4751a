use Rattle.std.proofs.Common.{◌≡◌, ℕ, ◌-◌, ◌*◌, List, length, arith}
use Rattle.micro_bits.proofs.BitWindow.{bits_left}
use Rattle.micro_bits.proofs.bit_reader.BitReader.skip.Goals as goal

pub invariant_of-self : goal.invariant_of-self
invariant_of-self c =
    let bytes : List ℕ = c.self.inside.bytes.now in
    let at : ℕ = c.self.inside.at in
    let left : length c.args.self.now ≡ 8 * length bytes - at = bits_left bytes at c.args.self.now c.self.view_is in
    (omega (arith, c.requires, left, c.self.invariant), c.self.invariant.1)

pub overflow_add-self : goal.overflow_add-self
overflow_add-self c =
    let bytes : List ℕ = c.self.inside.bytes.now in
    let at : ℕ = c.self.inside.at in
    let left : length c.args.self.now ≡ 8 * length bytes - at = bits_left bytes at c.args.self.now c.self.view_is in
    omega (arith, c.requires, left, c.self.invariant)
