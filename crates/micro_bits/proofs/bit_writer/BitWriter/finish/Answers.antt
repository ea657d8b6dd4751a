use Rattle.std.proofs.Common.{◌≡◌, ℕ, ◌+◌, ◌-◌, ◌*◌, ◌/◌, ◌<◌, List, [], ◌++◌, ◌≤◌, take, replicate, ap, ◌∙◌, arith}
use Rattle.micro_image.specs.Spells.{bits_of}
use Rattle.micro_bits.proofs.Writing.{last_bits, no_bits}
use Rattle.micro_bits.proofs.bit_writer.BitWriter.finish.Goals as goal

pub returns-then-self-eq0 : goal.returns-then-self-eq0
returns-then-self-eq0 c = (
  0,
  omega arith,
  no_bits c.self.inside.bytes c.self.inside.count c.self.inside.word (omega (arith, c.if-self-eq0.true))
      ∙ ap (λ (xs : List ℕ). xs ++ []) c.self.view_is,
)

pub returns : goal.returns
returns c =
    let count = c.self.inside.count in
    let word = c.self.inside.word in
    let free = 64 - count in
    let k = (count + 8 - 1) / 8 in
    let whole : count + free ≡ 64 = omega (arith, c.self.invariant) in
    let some : count ≤ 8 * k = omega arith in
    let few : k ≤ 8 = omega (arith, c.self.invariant) in
    let short : 8 * k - count < 8 = omega arith in (
      8 * k - count,
      short,
      ap bits_of c.in_ok-extend_from_slice.ensures.ok
          ∙ ap (λ (xs : List ℕ). bits_of (c.self.inside.bytes ++ take k xs)) c.to_be_bytes-last.ensures
          ∙ last_bits c.self.inside.bytes count free k word whole some few
          ∙ ap (λ (xs : List ℕ). xs ++ replicate (8 * k - count) 0) c.self.view_is,
    )
