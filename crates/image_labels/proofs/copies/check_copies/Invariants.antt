use Rattle.image_labels.specs.Rules.{AreCopies}
use Rattle.image_labels.proofs.copies.check_copies.Given as goal

abbrev pub invariant-loop-v : goal.invariant-loop-v
invariant-loop-v l = AreCopies l.graph l.certificate.representatives l.v
