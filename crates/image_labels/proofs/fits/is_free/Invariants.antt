use Rattle.std.proofs.Common.{◌<◌, ℕ}
use Rattle.image_labels.specs.Private.Checked.{IsIssuedBefore}
use Rattle.image_labels.proofs.fits.is_free.Given as goal

abbrev pub invariant-loop-back : goal.invariant-loop-back
invariant-loop-back l = (k : ℕ) → k < l.back → 0 < k → IsIssuedBefore l.image l.cycle k l.unit → ⊥
