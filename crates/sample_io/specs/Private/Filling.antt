-- One byte of a sample file that comes in pieces.
use Rattle.std.specs.Prelude.{◌≡◌, ℕ, List, [], ◌∷◌, ◌++◌, Bool, true, false, None}
use Rattle.lists.specs.Rows.{Rows as Stream}
use Rattle.sample_io.specs.FedRows.{FedRows}
use Rattle.sample_io.specs.Pieces.{HasTaken}
use Rattle.sample_io.specs.Samples.{Lines}

-- the byte was taken, and ended a row, which is shown now, or none
abbrev pub TakesNextByte : FedRows → ℕ → FedRows → Bool → Type 0
TakesNextByte old byte new false =
    (new.row ≡ old.row)
    × ((bytes : List ℕ) (before : Stream) → HasTaken old bytes before → HasTaken new (bytes ++ byte ∷ []) before)
TakesNextByte old byte new true =
    (bytes : List ℕ) (before : Stream) → HasTaken old bytes before
    → Lines (bytes ++ byte ∷ []) old.channels (before ++ new.row ∷ [])
    × HasTaken new (bytes ++ byte ∷ []) (before ++ new.row ∷ [])

-- these bytes were taken, and none ended a row
pub record TakesSoFar (old : FedRows) (piece : List ℕ) (new : FedRows) : Type 0 where
  pub channels : new.channels ≡ old.channels
  pub row : new.row ≡ old.row
  pub running : new.fault ≡ None
  pub taken : (bytes : List ℕ) (before : Stream) → HasTaken old bytes before → HasTaken new (bytes ++ piece) before
