-- One after another.
use Rattle.silage_syntax.specs.Tree.{view_manifest}
use Rattle.silage_print.specs.Text.{subscript_text}
use Rattle.silage_print.proofs.Spelled.{nothing, followed, more}
use Rattle.silage_print.proofs.print_exprs.put_subs.Goals as goal

pub loop-sub-init : goal.loop-sub-init
loop-sub-init c = nothing

pub loop-sub-preserved : goal.loop-sub-preserved
loop-sub-preserved c =
    more (λ m. subscript_text (view_manifest m)) _ _ _ _ _ _ _ c.loop-sub-test.true c.sub-item.is c.loop-sub.invariant
    (followed (followed c.in_ok-put_symbol.ensures c.in_ok-put_manifest.ensures) c.in_ok-put_symbol-2.ensures)
