use Rattle.std.proofs.Common.{arith, sym}
use Rattle.std.specs.Prelude.{slice_index}
use Rattle.silage_lex.proofs.Numbers.{whole_span, whole_digits, room_for, no_name_byte}
use Rattle.silage_lex.proofs.Longest.{span_size}
use Rattle.silage_lex.proofs.kinds.whole_number.Goals as goal

pub check_number-requires-clause-number : goal.check_number-requires-clause-number
check_number-requires-clause-number c =
    whole_span c.args.src.now c.args.from c.args.to c.requires.digits c.requires.no_fraction

pub check_number-requires-clause-digits : goal.check_number-requires-clause-digits
check_number-requires-clause-digits c = sym (whole_digits c.args.src.now c.args.from c.args.to c.requires.digits)

pub value_after-requires-clause-room : goal.value_after-requires-clause-room
value_after-requires-clause-room c =
    let few = c.in_ok-check_number.ensures.ok in
    let size = span_size c.args.src.now c.args.from c.args.to c.requires.digits.within in
    room_for _ (omega arith)

pub returns-clause-ok : goal.returns-clause-ok
returns-clause-ok c =
    let digits = c.requires.digits in
    let fits = c.in_ok-check_number.ensures.ok in
    let count = whole_digits c.args.src.now c.args.from c.args.to digits in
    let span = whole_span c.args.src.now c.args.from c.args.to digits c.requires.no_fraction in
    record {
      rises = digits.rises;
      within = digits.within;
      text = record { digits = digits.digits; short = omega arith; value_is = c.value_after.ensures.value };
      longest = span.longest;
      ends = (no_name_byte (slice_index c.args.src.now c.args.to) fits.1 digits.stop, c.requires.no_fraction);
    }
