-- One literal after another.
use Rattle.std.proofs.Common.{refl}
use Rattle.silage_print.specs.Text.{after_comma, lit_text}
use Rattle.silage_print.proofs.Spelled.{nothing, followed, more}
use Rattle.silage_print.proofs.print_types.put_other_lits.Goals as goal

pub loop-lit-init : goal.loop-lit-init
loop-lit-init c = nothing

pub loop-lit-preserved : goal.loop-lit-preserved
loop-lit-preserved c =
    more (after_comma lit_text) _ _ _ _ _ _ _ c.loop-lit-test.true refl c.loop-lit.invariant
    (followed c.in_ok-put_symbol.ensures c.in_ok-put_lit.ensures)
