-- One after another.
use Rattle.silage_syntax.specs.Tree.{view_expr}
use Rattle.silage_print.specs.Text.{after_comma, expr_text}
use Rattle.silage_print.proofs.Spelled.{nothing, followed, more}
use Rattle.silage_print.proofs.print_exprs.put_other_exprs.Goals as goal

pub loop-e-init : goal.loop-e-init
loop-e-init c = nothing

pub loop-e-preserved : goal.loop-e-preserved
loop-e-preserved c =
    more (λ x. after_comma expr_text (view_expr x)) _ _ _ _ _ _ _ c.loop-e-test.true c.e-item.is c.loop-e.invariant
    (followed c.in_ok-put_symbol.ensures c.in_ok-put_expr.ensures)
