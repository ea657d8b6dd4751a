use Rattle.std.proofs.Common.{◌+◌, refl, arith}
use Rattle.micro_file.proofs.Idle.{more_zeros, zeros_left, starts_with}
use Rattle.micro_file.proofs.bit_words.zeros_in_front.Goals as goal

pub loop-zeros-preserved : goal.loop-zeros-preserved
loop-zeros-preserved c =
    let more = c.loop-zeros-test.ensures.passed refl in (
      omega (arith, c.loop-zeros.invariant.0, zeros_left 57 c.loop-zeros.own c.passes_zeros.new.self more),
      more_zeros c.loop-zeros.zeros 57 c.args.reader.now c.loop-zeros.own c.passes_zeros.new.self
          c.loop-zeros.invariant.1 more,
    )

pub returns : goal.returns
returns c =
    let same = (c.loop-zeros-test.ensures.others refl).1 in
    starts_with (c.loop-zeros.zeros + c.pass.result) c.args.reader.now c.pass.new.reader
    (more_zeros c.loop-zeros.zeros c.pass.result c.args.reader.now c.loop-zeros.own c.pass.new.reader
    c.loop-zeros.invariant.1 (rw same at c.pass.ensures.passed))
