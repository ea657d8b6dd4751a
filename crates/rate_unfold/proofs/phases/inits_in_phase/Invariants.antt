use Rattle.std.proofs.Common.{◌≡◌, take}
use Rattle.rate_unfold.specs.Unfolded.{inits_in_phase}
use Rattle.rate_unfold.proofs.phases.inits_in_phase.Given as goal

abbrev pub invariant-loop-sample : goal.invariant-loop-sample
invariant-loop-sample l = l.own ≡ inits_in_phase l.phase.phases l.phase.number (take l.sample-index l.inits)
