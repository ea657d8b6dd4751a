-- One `var` after another.
use Rattle.silage_print.specs.Text.{local_text}
use Rattle.silage_print.proofs.Spelled.{nothing, followed, more}
use Rattle.silage_print.proofs.printing.put_locals.Goals as goal

pub loop-local-init : goal.loop-local-init
loop-local-init c = nothing

pub loop-local-preserved : goal.loop-local-preserved
loop-local-preserved c =
    more local_text _ _ _ _ _ _ _ c.loop-local-test.true c.local-item.is c.loop-local.invariant
    (followed (followed c.in_ok-put_word.ensures c.in_ok-put_decl.ensures) c.in_ok-put_symbol.ensures)
