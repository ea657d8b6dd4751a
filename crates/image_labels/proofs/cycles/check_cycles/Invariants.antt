use Rattle.image_labels.specs.Private.Checked.{AreCyclesFit}
use Rattle.image_labels.proofs.cycles.check_cycles.Given as goal

abbrev pub invariant-loop-cycle : goal.invariant-loop-cycle
invariant-loop-cycle l = AreCyclesFit l.graph l.image l.certificate l.cycle
