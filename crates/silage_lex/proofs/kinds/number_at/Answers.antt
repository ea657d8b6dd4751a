use Rattle.std.proofs.Common.{◌+◌, ap, sym, ◌∙◌}
use Rattle.silage_lex.specs.Bytes.{is_digit}
use Rattle.silage_lex.proofs.Numbers.{digit_span}
use Rattle.silage_lex.proofs.kinds.number_at.Goals as goal

pub pointed_number-requires-clause-whole : goal.pointed_number-requires-clause-whole
pointed_number-requires-clause-whole c =
    let e = c.digits_end-end.ensures in
    let span =
    digit_span c.args.src.now c.args.at c.digits_end-end.result e.within.0 e.within.1 c.requires.digit e.run
    e.end in
    span.digits

pub pointed_number-requires-clause-fraction : goal.pointed_number-requires-clause-fraction
pointed_number-requires-clause-fraction c =
    let e = c.digits_end.ensures in
    digit_span c.args.src.now (c.digits_end-end.result + 1) c.digits_end.result e.within.0 e.within.1
    (ap is_digit (sym c.byte_at-else-byte_at-ne46.ensures) ∙ sym c.if-not-is_digit.ensures) e.run e.end
