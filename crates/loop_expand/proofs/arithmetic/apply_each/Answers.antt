use Rattle.std.proofs.Common.{◌≡◌, rules, w32, arith, to_z, of_z, pos, slice_index_or}
use mir.Val.{SFits}
use Rattle.std.proofs.lemmas.Int.{to_z-of_z}
use Rattle.loop_expand.specs.Private.Turns.{at}
use Rattle.silage_syntax.specs.Manifests.{combined}
use Rattle.loop_expand.proofs.ValueRows.{one_more}
use Rattle.loop_expand.proofs.arithmetic.apply_each.Goals as goal

pub loop-k-preserved : goal.loop-k-preserved
loop-k-preserved c =
    let fits : SFits w32 c.apply.result = search rules in
    let fits_left : to_z w32 (of_z w32 (slice_index_or c.loop-k.left c.loop-k.k (pos 0)))
    ≡ slice_index_or c.loop-k.left c.loop-k.k (pos 0) = search rules in
    let fits_right : to_z w32 (of_z w32 (slice_index_or c.args.right.now c.loop-k.k (pos 0)))
    ≡ slice_index_or c.args.right.now c.loop-k.k (pos 0) = search rules in
    simp (to_z-of_z, fits)
    (one_more (combined c.args.op) c.args.left.now (at c.args.right.now) c.loop-k.k c.loop-k.left c.apply.result
    (omega arith) c.loop-k.invariant
    (simp (fits_left, fits_right) at c.apply.ensures))
