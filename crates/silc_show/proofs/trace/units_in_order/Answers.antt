use Rattle.std.proofs.Common.{◌∙◌, ◌∷◌, ◌++◌, [], ap, sym, zero-add}
use Rattle.std.specs.List.{range_with_len}
use Rattle.lists.proofs.Ranges.{range_more}
use Rattle.silc_show.proofs.trace.units_in_order.Goals as goal

pub loop-unit-preserved : goal.loop-unit-preserved
loop-unit-preserved c =
    c.in_ok-push.ensures.ok ∙ ap (λ order. order ++ c.loop-unit.unit ∷ []) c.loop-unit.invariant
    ∙ sym
    (range_more 0 c.loop-unit.unit
    ∙ ap (λ unit. range_with_len 0 c.loop-unit.unit ++ unit ∷ []) (zero-add c.loop-unit.unit))
