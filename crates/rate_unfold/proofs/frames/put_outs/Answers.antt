use Rattle.std.proofs.Common.{ℕ, ◌+◌, ◌*◌, ap}
use Rattle.rate_unfold.specs.Unfolded.{in_phase}
use Rattle.rate_unfold.proofs.FrameRows.{one_more_place}
use Rattle.rate_unfold.proofs.frames.put_outs.Goals as goal

pub loop-phase-preserved : goal.loop-phase-preserved
loop-phase-preserved c =
    let elements = c.args.elements in
    let out = c.args.out in
    one_more_place (λ (j : ℕ). in_phase elements j out) c.args.row.now c.loop-phase.row c.push.new.self
    c.loop-phase.phase (c.from.result * elements + out) c.loop-phase.invariant c.in_ok-push.ensures.ok
    (ap (λ (j : ℕ). in_phase elements j out) c.from.ensures)
