-- The name, and the arguments between parentheses.
use Rattle.silage_print.proofs.Spelled.{followed, ends}
use Rattle.silage_print.proofs.print_items.put_call.Goals as goal

pub returns : goal.returns
returns c =
    ends _ _ c.put_symbol-2.result (λ h.
    followed (followed c.in_ok-put_name.ensures (followed c.in_ok-put_symbol.ensures c.in_ok-put_exprs.ensures)) h)
    c.put_symbol-2.ensures
