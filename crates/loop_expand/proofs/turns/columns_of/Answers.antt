use Rattle.std.proofs.Common.{◌∙◌, ℤ, List, map, ap, arith}
use Rattle.loop_expand.specs.declared.columns.InnerTurn.{InnerTurn}
use Rattle.loop_expand.specs.Private.Turns.{at}
use Rattle.loop_expand.proofs.TurnRows.{columns_more}
use Rattle.loop_expand.proofs.turns.columns_of.Goals as goal

pub loop-column-preserved : goal.loop-column-preserved
loop-column-preserved c =
    columns_more c.args.outer.now c.loop-column.columns.items c.push.new.self.items c.loop-column.column-index
    c.column-item.result _ c.args.index.now c.args.inner.now _ (omega arith) c.column-item.is
    c.in_ok-push.ensures.items
    (ap (λ (values : List ℤ). (c.column-item.result.index.now, values))
    (c.in_ok-outer_values.ensures
    ∙ ap (λ (xs : List ℤ). map (λ (t : InnerTurn). at xs t.outer) c.args.inner.now) c.deref.ensures.value))
    c.loop-column.invariant
