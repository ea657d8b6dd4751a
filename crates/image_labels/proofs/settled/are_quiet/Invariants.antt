use Rattle.image_labels.specs.Private.Settled.{AreQuiet}
use Rattle.image_labels.proofs.settled.are_quiet.Given as goal

abbrev pub invariant-loop-cycle : goal.invariant-loop-cycle
invariant-loop-cycle l = AreQuiet l.image l.certificate l.unit l.cycle
