use Rattle.std.proofs.Common.{◌≡◌, ◌<◌, arith, sym, subst, ap}
use Rattle.silage_syntax.specs.Tree.{view_manifest}
use Rattle.loop_expand.specs.Private.Turns.{HasValues}
use Rattle.loop_expand.proofs.ManifestRows.{size, minus_values, minus_in_range, left_values, right_values}
use Rattle.loop_expand.proofs.ManifestRows.{both_in_range}
use Rattle.loop_expand.proofs.values.+values_of.Goals as goal

pub values_of-requires : goal.values_of-requires
values_of-requires t c =
    let whole : size (view_manifest c.args.m.now) ≡ t = c.decreases in
    let part = ap view_manifest c.deref.ensures in
    let less : size (view_manifest c.deref.result.now) < t =
    omega (arith, ap size part, ap size (ap view_manifest c.in-Negate.is)) in (
      less,
      (
        c.requires.some,
        subst (HasValues c.args.turns.now) (sym part)
            (minus_values c.args.turns.now (view_manifest c.args.m.now) c.requires.values _ _
            (ap view_manifest c.in-Negate.is)),
      ),
    )

pub both-requires-clause-in_range : goal.both-requires-clause-in_range
both-requires-clause-in_range t c =
    minus_in_range c.args.turns.now (view_manifest c.args.m.now) c.requires.values _ _ (ap view_manifest c.in-Negate.is)
    c.in_ok-value-in-Negate.value
    (rw c.deref.ensures at c.in_ok-value-in-Negate.ensures.values)

pub values_of-requires-in-Binary : goal.values_of-requires-in-Binary
values_of-requires-in-Binary t c =
    let whole : size (view_manifest c.args.m.now) ≡ t = c.decreases in
    let part = ap view_manifest c.deref-in-Binary.ensures in
    let less : size (view_manifest c.deref-in-Binary.result.now) < t =
    omega (arith, ap size part, ap size (ap view_manifest c.in-Binary.is)) in (
      less,
      (
        c.requires.some,
        subst (HasValues c.args.turns.now) (sym part)
            (left_values c.args.turns.now (view_manifest c.args.m.now) c.requires.values _ _ _ _
            (ap view_manifest c.in-Binary.is)),
      ),
    )

pub values_of-requires-in-Binary-2 : goal.values_of-requires-in-Binary-2
values_of-requires-in-Binary-2 t c =
    let whole : size (view_manifest c.args.m.now) ≡ t = c.decreases in
    let part = ap view_manifest c.deref-in-Binary-2.ensures in
    let less : size (view_manifest c.deref-in-Binary-2.result.now) < t =
    omega (arith, ap size part, ap size (ap view_manifest c.in-Binary.is)) in (
      less,
      (
        c.requires.some,
        subst (HasValues c.args.turns.now) (sym part)
            (right_values c.args.turns.now (view_manifest c.args.m.now) c.requires.values _ _ _ _
            (ap view_manifest c.in-Binary.is)),
      ),
    )

pub both-requires-in-Binary-clause-in_range : goal.both-requires-in-Binary-clause-in_range
both-requires-in-Binary-clause-in_range t c =
    both_in_range c.args.turns.now (view_manifest c.args.m.now) c.requires.values _ _ _ _
    (ap view_manifest c.in-Binary.is) c.in_ok-left-in-Binary.left c.in_ok-right-in-Binary.right
    (rw c.deref-in-Binary.ensures at c.in_ok-left-in-Binary.ensures.values)
    (rw c.deref-in-Binary-2.ensures at c.in_ok-right-in-Binary.ensures.values)
