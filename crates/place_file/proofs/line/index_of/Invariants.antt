use Rattle.std.proofs.Common.{◌≡◌, ◌==◌, ℕ, ◌<◌, false}
use Rattle.std.specs.Prelude.{slice_index_or}
use Rattle.place_file.proofs.line.index_of.Given as goal

abbrev pub invariant-loop-at : goal.invariant-loop-at
invariant-loop-at l = (k : ℕ) → k < l.at → (slice_index_or l.text k 0 == l.byte) ≡ false
