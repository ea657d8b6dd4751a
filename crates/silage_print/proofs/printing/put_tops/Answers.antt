-- One after another.
use Rattle.silage_syntax.specs.Tree.{view_top}
use Rattle.silage_print.specs.Text.{top_text}
use Rattle.silage_print.proofs.Spelled.{nothing, more}
use Rattle.silage_print.proofs.printing.put_tops.Goals as goal

pub loop-top-init : goal.loop-top-init
loop-top-init c = nothing

pub loop-top-preserved : goal.loop-top-preserved
loop-top-preserved c =
    more (λ top. top_text (view_top top)) _ _ _ _ _ _ _ c.loop-top-test.true c.top-item.is c.loop-top.invariant
    c.in_ok-put_top.ensures
