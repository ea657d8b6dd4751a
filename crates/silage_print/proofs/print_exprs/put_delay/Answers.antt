-- Nothing, or the mark and the amount.
use Rattle.std.proofs.Common.{ap, sym}
use Rattle.silage_syntax.specs.Tree.{view_delay}
use Rattle.silage_print.specs.Text.{delay_text}
use Rattle.silage_print.proofs.Spelled.{nothing, followed, ends, alike}
use Rattle.silage_print.proofs.print_exprs.put_delay.Goals as goal

pub returns-in-None : goal.returns-in-None
returns-in-None c = alike (sym (ap (λ d. delay_text (view_delay d)) c.in-None.is)) nothing

pub returns-in_ok-put_symbol-in-Some : goal.returns-in_ok-put_symbol-in-Some
returns-in_ok-put_symbol-in-Some c =
    let whole = ap (λ d. delay_text (view_delay d)) c.in-Some.is in
    ends _ _ c.put_amount.result (λ h. alike (cc) (followed c.in_ok-put_symbol-in-Some.ensures h)) c.put_amount.ensures
