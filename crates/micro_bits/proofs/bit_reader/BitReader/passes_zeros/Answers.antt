use Rattle.std.proofs.Common.{◌≡◌, refl, ℕ, ◌-◌, ◌*◌, List, length, arith}
use Rattle.micro_bits.proofs.BitWindow.{bits_left, zeros_read, some_bit}
use Rattle.micro_bits.proofs.bit_reader.BitReader.passes_zeros.Goals as goal

pub invariant_of-self : goal.invariant_of-self
invariant_of-self c =
    let bytes : List ℕ = c.self.inside.bytes.now in
    let at : ℕ = c.self.inside.at in
    let left : length c.args.self.now ≡ 8 * length bytes - at = bits_left bytes at c.args.self.now c.self.view_is in
    (omega (arith, c.count.ensures.count, c.if-count.false, left, c.self.invariant), c.self.invariant.1)

pub returns-clause-passed : goal.returns-clause-passed
returns-clause-passed c =
    λ _. zeros_read c.self.inside.bytes.now c.self.inside.at c.args.count c.peek.result c.args.self.now c.self.view_is
    c.peek.ensures.number (omega (arith, c.if-peek-ne0.false))

pub returns-then-peek-ne0-clause-others : goal.returns-then-peek-ne0-clause-others
returns-then-peek-ne0-clause-others c =
    λ _. (
      some_bit c.args.count c.peek.result c.args.self.now c.peek.ensures.number c.peek.ensures.bound
          (λ none. absurd (omega (arith, none, c.if-peek-ne0.true))),
      refl,
    )
