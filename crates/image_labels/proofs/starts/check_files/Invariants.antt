use Rattle.image_labels.specs.Private.Checked.{AreFilesStart}
use Rattle.image_labels.proofs.starts.check_files.Given as goal

abbrev pub invariant-loop-port : goal.invariant-loop-port
invariant-loop-port l = AreFilesStart l.graph l.image l.certificate l.turn l.unit l.port
