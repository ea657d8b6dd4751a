-- The words so far are those of the rows so far.
use Rattle.std.proofs.Common.{◌≡◌, ◌-◌, length}
use Rattle.lists.specs.Rows.{Rows}
use Rattle.whole_samples.specs.Reading.{words_of}
use Rattle.whole_samples.proofs.FedTexts.{IsFedTo}
use Rattle.whole_samples.proofs.reading.words_of.Given as goal

abbrev pub invariant-rows : goal.invariant-rows
invariant-rows l =
    (list : Rows) × IsFedTo l.fn.rows.channels l.text l.at l.rows list × (l.words ≡ words_of list)

abbrev pub decreases-rows : goal.decreases-rows
decreases-rows l = length l.text - l.at
