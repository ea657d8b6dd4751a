use Rattle.std.proofs.Common.{◌≡◌}
use Rattle.rate_unfold.specs.Frames.{place}
use Rattle.rate_unfold.proofs.frames.place.Given as goal

abbrev pub invariant-loop-before : goal.invariant-loop-before
invariant-loop-before l = l.places ≡ place l.phases l.slow l.before
