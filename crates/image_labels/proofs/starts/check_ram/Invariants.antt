use Rattle.image_labels.specs.Private.Checked.{IsRamStart}
use Rattle.image_labels.proofs.starts.check_ram.Given as goal

abbrev pub invariant-loop-cell : goal.invariant-loop-cell
invariant-loop-cell l = IsRamStart l.graph l.image l.certificate l.turn l.cells l.unit l.cell
