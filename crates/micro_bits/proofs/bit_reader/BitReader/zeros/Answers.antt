use Rattle.std.proofs.Common.{◌≡◌, ℕ, ◌-◌, ◌*◌, ◌/◌, ◌^◌, ◌%◌, ◌≤◌, List, length, take, sym, ap, ◌∙◌, arith}
use Rattle.std.proofs.Math.Nat.{mod-lt}
use Rattle.micro_image.specs.Bits.{bits}
use Rattle.micro_bits.proofs.BitWindow.{bits_left, peeked, front_none, zeros_read}
use Rattle.micro_bits.proofs.bit_reader.BitReader.zeros.Goals as goal

pub invariant_of-self : goal.invariant_of-self
invariant_of-self c =
    let bytes : List ℕ = c.self.inside.bytes.now in
    let at : ℕ = c.self.inside.at in
    let left : length c.args.self.now ≡ 8 * length bytes - at = bits_left bytes at c.args.self.now c.self.view_is in
    let there : c.min-zeros.result ≤ length c.args.self.now =
    omega (arith, c.min-zeros.ensures, c.count.ensures.count) in
    (omega (arith, there, left, c.self.invariant), c.self.invariant.1)

pub returns-clause-passed : goal.returns-clause-passed
returns-clause-passed c =
    let bytes : List ℕ = c.self.inside.bytes.now in
    let at : ℕ = c.self.inside.at in
    let n : ℕ = c.min-zeros.result in
    let window : ℕ = c.window.result * 2 ^ (at % 8) % 2 ^ 64 in
    let left : length c.args.self.now ≡ 8 * length bytes - at = bits_left bytes at c.args.self.now c.self.view_is in
    let few : n ≤ 57 = omega (arith, c.min-zeros.ensures, c.min.ensures, c.requires) in
    let there : n ≤ length c.args.self.now = omega (arith, c.min-zeros.ensures, c.count.ensures.count) in
    let front : take n c.args.self.now ≡ bits n (window / 2 / 2 ^ (63 - n)) =
    ap (take n) (sym c.self.view_is)
    ∙ peeked bytes at n c.window.result (omega (arith, there, left, c.self.invariant)) few c.window.ensures in
    zeros_read bytes at n (window / 2 / 2 ^ (63 - n)) c.args.self.now c.self.view_is front
    (front_none window n (mod-lt (c.window.result * 2 ^ (at % 8)) (omega arith)) (omega (arith, few))
    (omega (arith, c.min-zeros.ensures, c.min.ensures)))
