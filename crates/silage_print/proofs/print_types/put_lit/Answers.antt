-- The sign, and the number.
use Rattle.std.proofs.Common.{ap, sym}
use Rattle.silage_print.specs.Text.{lit_text}
use Rattle.silage_print.proofs.Spelled.{followed, ends, alike}
use Rattle.silage_print.proofs.print_types.put_lit.Goals as goal

pub returns-in_ok-put_sign-in-Number : goal.returns-in_ok-put_sign-in-Number
returns-in_ok-put_sign-in-Number c =
    ends _ _ c.put_number.result
    (λ h. alike (sym (ap lit_text c.in-Number.is)) (followed c.in_ok-put_sign-in-Number.ensures h)) c.put_number.ensures
