-- The index, and the bounds after it.
use Rattle.silage_print.proofs.Spelled.{followed, ends}
use Rattle.silage_print.proofs.print_items.put_turns.Goals as goal

pub returns : goal.returns
returns c =
    let low =
    followed c.in_ok-put_symbol.ensures
    (followed c.in_ok-put_name.ensures (followed c.in_ok-put_symbol-2.ensures c.in_ok-put_manifest.ensures)) in
    let high = followed c.in_ok-put_symbol-3.ensures c.in_ok-put_manifest-2.ensures in
    ends _ _ c.put_symbol-4.result (λ h. followed (followed low high) h) c.put_symbol-4.ensures
