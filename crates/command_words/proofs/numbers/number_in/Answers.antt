use Rattle.std.proofs.Common.{arith, ◌+◌, ◌<◌, length}
use Rattle.command_words.proofs.Numerals.{decimal_push, front_le}
use Rattle.command_words.proofs.numbers.number_in.Goals as goal

pub returns-then-number-most : goal.returns-then-number-most
returns-then-number-most c = λ n is some few.
    let inside : c.loop-byte.byte-index < length c.args.text.now =
    omega (arith, c.loop-byte-test.true, c.loop-byte.auto.byte-index-end) in
    let more =
    decimal_push c.args.text.now c.loop-byte.byte-index _ c.in_ok-number.field-0 inside c.in_ok-number.ensures.1 in
    let above = c.if-number-most.true in
    omega (
      arith,
      more,
      c.loop-byte.invariant.value,
      front_le c.args.text.now (c.loop-byte.byte-index + 1),
      is.value,
      few,
      above,
    )
