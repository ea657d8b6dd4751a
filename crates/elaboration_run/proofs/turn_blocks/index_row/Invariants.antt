use Rattle.std.proofs.Common.{◌≡◌, ◌<◌, ◌+ℤ◌, ℕ, pos, length}
use Rattle.elaboration_run.specs.Private.Lanes.{at}
use Rattle.elaboration_run.proofs.turn_blocks.index_row.Given as goal

abbrev pub invariant-loop-k : goal.invariant-loop-k
invariant-loop-k l = (length l.row ≡ 32) × ((j : ℕ) → j < l.k → at l.row j ≡ l.turn +ℤ pos j)
