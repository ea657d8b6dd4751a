use Rattle.std.proofs.Common.{◌≡◌, ◌<◌, ℕ, length}
use Rattle.elaboration_run.specs.Private.Lanes.{at}
use Rattle.elaboration_run.proofs.groups.filled.Given as goal

abbrev pub invariant-loop-k : goal.invariant-loop-k
invariant-loop-k l =
    (length l.next ≡ length l.row)
    × ((i : ℕ) → i < l.lane → at l.next i ≡ at l.row i)
    × (l.lane < l.k → at l.next l.lane ≡ l.value)
