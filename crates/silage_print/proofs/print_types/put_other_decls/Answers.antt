-- One declaration after another.
use Rattle.silage_print.specs.Text.{after_comma, decl_text}
use Rattle.silage_print.proofs.Spelled.{nothing, followed, more}
use Rattle.silage_print.proofs.print_types.put_other_decls.Goals as goal

pub loop-decl-init : goal.loop-decl-init
loop-decl-init c = nothing

pub loop-decl-preserved : goal.loop-decl-preserved
loop-decl-preserved c =
    more (after_comma decl_text) _ _ _ _ _ _ _ c.loop-decl-test.true c.decl-item.is c.loop-decl.invariant
    (followed c.in_ok-put_symbol.ensures c.in_ok-put_decl.ensures)
