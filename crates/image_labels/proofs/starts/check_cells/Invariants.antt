use Rattle.image_labels.specs.Private.Checked.{AreCellsStart}
use Rattle.image_labels.proofs.starts.check_cells.Given as goal

abbrev pub invariant-loop-unit : goal.invariant-loop-unit
invariant-loop-unit l = AreCellsStart l.graph l.image l.certificate l.turn l.unit
