use Rattle.std.proofs.Common.{◌≡◌, ◌+◌, ◌*◌, ℕ, ◌<◌, length}
use Rattle.place_file.specs.Private.Entries.{nth, entry_at, key_limit}
use Rattle.place_file.proofs.given.keys_of.Given as goal

abbrev pub invariant-loop-k : goal.invariant-loop-k
invariant-loop-k l =
    (length l.keys.items ≡ l.k)
    × ((j : ℕ) → j < l.k → nth l.keys.items j ≡ key_limit * (entry_at l.entries j).node + j)
