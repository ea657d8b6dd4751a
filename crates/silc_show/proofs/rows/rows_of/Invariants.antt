-- The rows so far are in the list.
use Rattle.std.proofs.Common.{◌-◌, length}
use Rattle.whole_samples.proofs.FedTexts.{IsFedTo}
use Rattle.silc_show.proofs.rows.rows_of.Given as goal

abbrev pub invariant-rows : goal.invariant-rows
invariant-rows l = IsFedTo l.fn.rows.channels l.samples l.at l.rows l.list

abbrev pub decreases-rows : goal.decreases-rows
decreases-rows l = length l.samples - l.at
