-- The digits with their point, and the blank.
use Rattle.std.proofs.Common.{arith, ◌++◌, ap, ◌∙◌, decimal}
use Rattle.std.proofs.lemmas.Bool.Decides.{nat_tests}
use Rattle.silage_print.specs.Text.{pointed, filled}
use Rattle.silage_print.proofs.Spelled.{pointed_put, ends}
use Rattle.silage_print.proofs.print_tokens.put_number.Goals as goal

pub returns : goal.returns
returns c =
    let text = c.in_ok-put_filled.ensures in
    let digits = c.as_bytes.ensures.value ∙ c.format.ensures.text in
    let places = c.from.ensures in
    let some = c.if-places-eq0.false in
    let added =
    text ∙ ap (λ ds. c.args.out.now ++ pointed (filled ds c.from.result) c.from.result) digits
    ∙ ap (λ n. c.args.out.now ++ pointed (filled (decimal c.args.digits) n) n) places in
    ends _ _ c.put_blank.result (λ h.
    pointed_put c.args.digits c.args.places c.args.out.now c.put_filled.new.out c.put_blank.new.out
    (grind (arith, nat_tests)) added h)
    c.put_blank.ensures
