use Rattle.image_labels.specs.Private.Checked.{IsRowPut}
use Rattle.image_labels.proofs.rows.check_row.Given as goal

abbrev pub invariant-loop-output : goal.invariant-loop-output
invariant-loop-output l = IsRowPut l.image l.sample l.output
