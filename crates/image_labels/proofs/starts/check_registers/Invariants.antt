use Rattle.image_labels.specs.Private.Checked.{AreRegistersStart}
use Rattle.image_labels.proofs.starts.check_registers.Given as goal

abbrev pub invariant-loop-unit : goal.invariant-loop-unit
invariant-loop-unit l = AreRegistersStart l.graph l.image l.certificate l.turn l.unit
