-- The words between their parentheses.
use Rattle.silage_print.proofs.Spelled.{followed, ends, alike}
use Rattle.silage_print.proofs.printing.put_words.Goals as goal

pub returns : goal.returns
returns c =
    ends _ _ c.put_close.result
    (λ h. alike (cc) (followed (followed c.in_ok-put_open.ensures c.in_ok-put_lits.ensures) h)) c.put_close.ensures
