-- The locals and the items between `begin` and `end`.
use Rattle.silage_print.proofs.Spelled.{followed, ends}
use Rattle.silage_print.proofs.printing.put_body.Goals as goal

pub returns : goal.returns
returns c =
    let inside = followed (followed c.in_ok-put_word.ensures c.in_ok-put_locals.ensures) c.in_ok-put_items.ensures in
    ends _ _ c.put_symbol.result (λ h. followed inside (followed c.in_ok-put_word-2.ensures h)) c.put_symbol.ensures
