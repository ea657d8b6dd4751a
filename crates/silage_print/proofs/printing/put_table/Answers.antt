-- The name, the dims, the type and the words.
use Rattle.silage_print.proofs.Spelled.{followed, ends}
use Rattle.silage_print.proofs.printing.put_table.Goals as goal

pub returns : goal.returns
returns c =
    let name = followed c.in_ok-put_word.ensures (followed c.in_ok-put_name.ensures c.in_ok-put_dims.ensures) in
    let type = followed c.in_ok-put_symbol.ensures c.in_ok-put_fix.ensures in
    let words = followed c.in_ok-put_symbol-2.ensures c.in_ok-put_words.ensures in
    ends _ _ c.put_symbol-3.result (λ h. followed (followed (followed name type) words) h) c.put_symbol-3.ensures
