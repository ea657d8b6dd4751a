-- Token after token.
use Rattle.silage_print.proofs.Spelled.{followed, ends, alike}
use Rattle.silage_print.proofs.print_types.put_fix.Goals as goal

pub returns : goal.returns
returns c =
    let front =
    followed c.in_ok-put_word.ensures
    (followed c.in_ok-put_symbol.ensures
    (followed c.in_ok-put_whole.ensures
    (followed c.in_ok-put_symbol-2.ensures (followed c.in_ok-put_whole-2.ensures
    (followed c.in_ok-put_symbol-3.ensures c.in_ok-put_mode.ensures))))) in
    ends _ _ c.put_symbol-4.result (λ h. alike (cc) (followed front h)) c.put_symbol-4.ensures
