-- One after another.
use Rattle.silage_syntax.specs.Tree.{view_place}
use Rattle.silage_print.specs.Text.{after_comma, place_text}
use Rattle.silage_print.proofs.Spelled.{nothing, followed, more}
use Rattle.silage_print.proofs.print_exprs.put_other_places.Goals as goal

pub loop-place-init : goal.loop-place-init
loop-place-init c = nothing

pub loop-place-preserved : goal.loop-place-preserved
loop-place-preserved c =
    more (λ p. after_comma place_text (view_place p)) _ _ _ _ _ _ _ c.loop-place-test.true c.place-item.is
    c.loop-place.invariant (followed c.in_ok-put_symbol.ensures c.in_ok-put_place.ensures)
