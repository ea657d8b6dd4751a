use Rattle.image_labels.specs.Private.Settled.{AreAllQuiet}
use Rattle.image_labels.proofs.settled.are_all_quiet.Given as goal

abbrev pub invariant-loop-unit : goal.invariant-loop-unit
invariant-loop-unit l = AreAllQuiet l.image l.certificate l.unit
