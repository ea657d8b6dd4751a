use Rattle.std.proofs.Common.{◌+◌, arith, ◌∙◌}
use Rattle.std.specs.Prelude.{slice_index, slice_range}
use Rattle.silage_lex.proofs.Numbers.{pointed_text, pointed_span, pointed_digits, room_for, room_after, decimal-append}
use Rattle.silage_lex.proofs.Numbers.{no_name_byte}
use Rattle.silage_lex.proofs.Longest.{span_size}
use Rattle.silage_lex.proofs.kinds.pointed_number.Goals as goal

pub check_number-requires-clause-number : goal.check_number-requires-clause-number
check_number-requires-clause-number c =
    let r = c.requires in
    pointed_span c.args.src.now c.args.from c.args.point c.args.to r.rises r.whole r.is_point r.fraction

pub check_number-requires-clause-digits : goal.check_number-requires-clause-digits
check_number-requires-clause-digits c =
    let r = c.requires in
    let text = pointed_text c.args.src.now c.args.from c.args.point c.args.to r.rises r.whole r.is_point r.fraction in
    let count = pointed_digits c.args.src.now c.args.from c.args.point c.args.to r.fraction.within text in
    omega arith

pub value_after-whole-requires-clause-room : goal.value_after-whole-requires-clause-room
value_after-whole-requires-clause-room c =
    let few = c.in_ok-check_number.ensures.ok in
    let up = c.requires.fraction.rises in
    let within = c.requires.fraction.within in
    let size = span_size c.args.src.now c.args.from c.args.point (omega arith) in
    room_for _ (omega arith)

pub value_after-digits-requires-clause-room : goal.value_after-digits-requires-clause-room
value_after-digits-requires-clause-room c =
    let few = c.in_ok-check_number.ensures.ok in
    let up = c.requires.fraction.rises in
    let within = c.requires.fraction.within in
    let front = span_size c.args.src.now c.args.from c.args.point (omega arith) in
    let back = span_size c.args.src.now (c.args.point + 1) c.args.to within in
    room_after c.value_after-whole.result _ _ c.value_after-whole.ensures.bound (omega arith)

pub returns-clause-ok : goal.returns-clause-ok
returns-clause-ok c =
    let r = c.requires in
    let fits = c.in_ok-check_number.ensures.ok in
    let text = pointed_text c.args.src.now c.args.from c.args.point c.args.to r.rises r.whole r.is_point r.fraction in
    let count = pointed_digits c.args.src.now c.args.from c.args.point c.args.to r.fraction.within text in
    let span = pointed_span c.args.src.now c.args.from c.args.point c.args.to r.rises r.whole r.is_point r.fraction in
    let back = span_size c.args.src.now (c.args.point + 1) c.args.to r.fraction.within in
    record {
      rises = span.rises;
      within = span.within;
      text = record {
        whole = slice_range c.args.src.now c.args.from c.args.point;
        fraction = slice_range c.args.src.now (c.args.point + 1) c.args.to;
        pointed = text;
        short = omega arith;
        digits_are =
            c.value_after-digits.ensures.value
            ∙ decimal-append c.value_after-whole.result (slice_range c.args.src.now c.args.from c.args.point)
            (slice_range c.args.src.now (c.args.point + 1) c.args.to) c.value_after-whole.ensures.value;
        places_are = omega arith;
      };
      longest = span.longest;
      ends = no_name_byte (slice_index c.args.src.now c.args.to) fits.1 r.fraction.stop;
    }
