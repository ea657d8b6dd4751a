use Rattle.std.proofs.Common.{ℕ, refl}
use Rattle.rate_unfold.proofs.FrameRows.{one_more_place}
use Rattle.rate_unfold.proofs.frames.put_types.Goals as goal

pub loop-phase-preserved : goal.loop-phase-preserved
loop-phase-preserved c =
    one_more_place (λ (j : ℕ). c.args.ty) c.args.row.now c.loop-phase.row c.push.new.self c.loop-phase._phase c.args.ty
    c.loop-phase.invariant c.in_ok-push.ensures.ok refl
