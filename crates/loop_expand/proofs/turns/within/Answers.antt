use Rattle.std.proofs.Common.{◌≡◌, ◌∙◌, sym, subst, ap, ap₂, List, rules, length}
use Rattle.silage_syntax.specs.Tree.{view_manifest}
use Rattle.loop_expand.specs.declared.columns.Column.{Column}
use Rattle.loop_expand.specs.declared.columns.InnerTurn.{InnerTurn}
use Rattle.loop_expand.specs.Private.Columns.{AreFull}
use Rattle.loop_expand.specs.Private.Turns.{view_columns, inner_columns}
use Rattle.loop_expand.proofs.TurnRows.{within_is, columns_full}
use Rattle.loop_expand.proofs.turns.within.Goals as goal

pub returns : goal.returns
returns c =
    let long : c.len.result ≡ length c.in_ok-inner.inner.items = search rules in
    within_is (view_columns c.args.turns.now.columns.items) c.args.index.now (view_manifest c.args.lo.now)
    (view_manifest c.args.hi.now) c.args.turns.now.count c.len.result (view_columns c.in_ok-columns_of.field-0.items)
    c.in_ok-inner.inner.items
    c.in_ok-inner.ensures.turns
    (c.in_ok-columns_of.ensures
    ∙ ap₂ (λ (cs : List Column) (is : List InnerTurn). inner_columns (view_columns cs) c.args.index.now is)
    c.deref.ensures.value c.deref-2.ensures.value) long

pub invariant_of-result : goal.invariant_of-result
invariant_of-result c =
    let long : c.len.result ≡ length c.in_ok-inner.inner.items = search rules in
    record {
      full = subst (AreFull c.in_ok-columns_of.field-0.items) (ap length c.deref-2.ensures.value ∙ sym long)
          (columns_full (view_columns c.deref.result.now) c.args.index.now c.deref-2.result.now
          c.in_ok-columns_of.field-0.items c.in_ok-columns_of.ensures);
    }
