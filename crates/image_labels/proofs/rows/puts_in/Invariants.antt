use Rattle.std.proofs.Common.{◌<◌, ℕ}
use Rattle.image_labels.specs.Private.Checked.{PutsAt}
use Rattle.image_labels.proofs.rows.puts_in.Given as goal

abbrev pub invariant-loop-unit : goal.invariant-loop-unit
invariant-loop-unit l = (u : ℕ) → u < l.unit → PutsAt l.image l.cycle u l.output → ⊥
