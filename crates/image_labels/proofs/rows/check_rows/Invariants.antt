use Rattle.image_labels.specs.Private.Checked.{AreRowsPut}
use Rattle.image_labels.proofs.rows.check_rows.Given as goal

abbrev pub invariant-loop-sample : goal.invariant-loop-sample
invariant-loop-sample l = AreRowsPut l.image l.sample
