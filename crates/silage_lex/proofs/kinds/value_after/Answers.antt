use Rattle.std.proofs.Common.{arith}
use Rattle.std.specs.Prelude.{slice_index}
use Rattle.std.proofs.lemmas.List.Sums.{AllPass-from_list_all}
use Rattle.silage_lex.specs.Bytes.{is_digit}
use Rattle.silage_lex.proofs.Values.{digit_range, bound_more, bound_within, decimal_more}
use Rattle.silage_lex.proofs.kinds.value_after.Goals as goal

pub overflow_mul-value : goal.overflow_mul-value
overflow_mul-value c =
    let i = c.loop-digit.invariant in
    let fits =
    bound_within c.args.number c.loop-digit.value c.loop-digit.digit-index _ i.1 c.loop-digit-test.true
    c.requires.room in
    omega arith

pub overflow_add-value : goal.overflow_add-value
overflow_add-value c =
    let i = c.loop-digit.invariant in
    let fits =
    bound_within c.args.number c.loop-digit.value c.loop-digit.digit-index _ i.1 c.loop-digit-test.true
    c.requires.room in
    let d =
    digit_range (slice_index c.args.digits.now c.loop-digit.digit-index)
    (AllPass-from_list_all is_digit c.args.digits.now c.requires.digits c.loop-digit.digit-index 0
    c.loop-digit-test.true) in
    let e = c.from.ensures in
    omega arith

pub loop-digit-preserved : goal.loop-digit-preserved
loop-digit-preserved c =
    let i = c.loop-digit.invariant in
    let d =
    digit_range (slice_index c.args.digits.now c.loop-digit.digit-index)
    (AllPass-from_list_all is_digit c.args.digits.now c.requires.digits c.loop-digit.digit-index 0
    c.loop-digit-test.true) in
    let e = c.from.ensures in
    let more = decimal_more c.args.number c.args.digits.now c.loop-digit.digit-index c.loop-digit-test.true in (
      (omega arith),
      bound_more c.args.number c.loop-digit.value c.loop-digit.digit-index c.from.result i.1 (omega arith),
    )
