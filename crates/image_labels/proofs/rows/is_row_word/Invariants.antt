use Rattle.std.proofs.Common.{◌<◌, ℕ}
use Rattle.image_labels.specs.Private.Checked.{PutsInSample}
use Rattle.image_labels.proofs.rows.is_row_word.Given as goal

abbrev pub invariant-loop-cycle : goal.invariant-loop-cycle
invariant-loop-cycle l = (c : ℕ) → c < l.cycle → PutsInSample l.image c l.sample l.output → ⊥
