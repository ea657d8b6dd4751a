use Rattle.std.proofs.Common.{◌≡◌, rules, w32, arith, to_z, of_z, pos, slice_index_or}
use mir.Val.{SFits}
use Rattle.std.proofs.lemmas.Int.{to_z-of_z}
use Rattle.silage_syntax.specs.Manifests.{combined}
use Rattle.loop_expand.proofs.ValueRows.{one_more}
use Rattle.loop_expand.proofs.arithmetic.apply_same.Goals as goal

pub loop-k-preserved : goal.loop-k-preserved
loop-k-preserved c =
    let fits : SFits w32 c.apply.result = search rules in
    let fits_left : to_z w32 (of_z w32 (slice_index_or c.loop-k.left c.loop-k.k (pos 0)))
    ≡ slice_index_or c.loop-k.left c.loop-k.k (pos 0) = search rules in
    let fits_right : SFits w32 c.args.right = search rules in
    let so_far = simp (to_z-of_z, fits_right) at c.loop-k.invariant in
    simp (to_z-of_z, fits, fits_right)
    (one_more (combined c.args.op) c.args.left.now (λ j. c.args.right) c.loop-k.k c.loop-k.left c.apply.result
    (omega arith) so_far
    (simp (fits_left, to_z-of_z, fits_right) at c.apply.ensures))
