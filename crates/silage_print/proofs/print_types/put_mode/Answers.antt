-- The words of a mode, and the comma between.
use Rattle.std.proofs.Common.{ap, sym}
use Rattle.silage_print.specs.Text.{mode_text}
use Rattle.silage_print.proofs.Spelled.{followed, ends, alike}
use Rattle.silage_print.proofs.print_types.put_mode.Goals as goal

pub returns-in_ok-put_symbol-in-RoundSat : goal.returns-in_ok-put_symbol-in-RoundSat
returns-in_ok-put_symbol-in-RoundSat c =
    ends _ _ c.put_word-in-RoundSat-2.result
    (λ h.
    alike (sym (ap mode_text c.in-RoundSat.is))
    (followed c.in_ok-put_word-in-RoundSat.ensures (followed c.in_ok-put_symbol-in-RoundSat.ensures h)))
    c.put_word-in-RoundSat-2.ensures
