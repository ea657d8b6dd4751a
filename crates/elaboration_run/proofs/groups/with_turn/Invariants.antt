use Rattle.std.proofs.Common.{◌≡◌, ◌<◌, ℕ, length, take}
use Rattle.elaboration_run.specs.Private.Lanes.{column}
use Rattle.elaboration_run.proofs.groups.with_turn.Given as goal

abbrev pub invariant-loop-d : goal.invariant-loop-d
invariant-loop-d l =
    (column l.longer l.lane ≡ take l.d l.turn)
    × (length l.rows ≡ length l.turn → (k : ℕ) → k < l.lane → column l.longer k ≡ column (take l.d l.rows) k)
