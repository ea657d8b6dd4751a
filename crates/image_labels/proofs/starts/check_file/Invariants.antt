use Rattle.image_labels.specs.Private.Checked.{IsFileStart}
use Rattle.image_labels.proofs.starts.check_file.Given as goal

abbrev pub invariant-loop-reg : goal.invariant-loop-reg
invariant-loop-reg l = IsFileStart l.graph l.image l.certificate l.turn l.unit l.port l.reg
