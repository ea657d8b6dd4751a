-- The rows of a sample file that comes in pieces, whatever the cuts between the pieces.
use Rattle.std.specs.Prelude.{◌≡◌, ◌⊎◌, ℕ, ◌+◌, ◌<◌, ◌≤◌, ◌^◌, List, [], ◌∷◌, ◌++◌, length, take, None, IsSome}
use Rattle.std.specs.Prelude.{Contains}
use Rattle.lists.specs.Rows.{Rows as Stream}
use Rattle.sample_io.specs.declared.RowFault.{RowFault}
use Rattle.sample_io.specs.declared.channel.Channel.{Channel}
use Rattle.sample_io.specs.declared.pieces.Step.{Step}
use Rattle.sample_io.specs.declared.pieces.Step.TheVariants.{Need, Row}
use Rattle.sample_io.specs.Channels.{AreChannels}
use Rattle.sample_io.specs.FedRows.{FedRows}
use Rattle.sample_io.specs.Samples.{line_feed, Lines, LacksLastEnd, BeginsRow, StopsAfter}

-- the bytes are the lines of these rows, and a line begun, which begins a row
pub record AreLinesSoFar (channels : List Channel) (bytes : List ℕ) (rows : Stream) : Type 0 where
  pub front : List ℕ
  pub line : List ℕ
  pub bytes_are : bytes ≡ front ++ line
  pub before : Lines front channels rows
  pub unended : Contains line line_feed → ⊥
  pub begins : BeginsRow channels line

-- These bytes were taken, all pieces together: the lines of these rows, and a line begun. None of them is bad.
pub record HasTaken (rows : FedRows) (bytes : List ℕ) (before : Stream) : Type 0 where
  pub sound : AreChannels rows.channels
  pub running : rows.fault ≡ None
  pub taken : rows.taken ≡ bytes
  pub so_far : AreLinesSoFar rows.channels bytes before

-- the rows stand within a file, and with so many bytes more fewer than 2^60 were taken; or they keep a fault
abbrev pub CanTake : FedRows → ℕ → Type 0
CanTake rows count =
    IsSome rows.fault
    ⊎ ((bytes : List ℕ) × (before : Stream) × HasTaken rows bytes before × (length bytes + count < 2 ^ 60))

-- So many bytes of the piece were taken: they end a row, which is shown now. Or all were taken, and none ended a row.
abbrev pub TakesPiece : FedRows → List ℕ → FedRows → Step → Type 0
TakesPiece old piece new Need =
    (new.row ≡ old.row)
    × ((bytes : List ℕ) (before : Stream) → HasTaken old bytes before → HasTaken new (bytes ++ piece) before)
TakesPiece old piece new (Row count) =
    (0 < count) × (count ≤ length piece)
    × ((bytes : List ℕ) (before : Stream) → HasTaken old bytes before
    → Lines (bytes ++ take count piece) old.channels (before ++ new.row ∷ [])
    × HasTaken new (bytes ++ take count piece) (before ++ new.row ∷ []))

-- the first bad place is in the piece, whatever comes after it; the rows before it are those that were shown
abbrev pub MeetsFault : FedRows → List ℕ → RowFault → Type 0
MeetsFault old piece fault =
    (bytes : List ℕ) (before : Stream) → HasTaken old bytes before
    → (more : List ℕ) → StopsAfter old.channels (bytes ++ piece ++ more) before fault

-- at the end of input no line is begun; or the line begun is a row, which is shown now
abbrev pub EndsInput : FedRows → FedRows → Step → Type 0
EndsInput old new Need =
    (new.row ≡ old.row)
    × ((bytes : List ℕ) (before : Stream) → HasTaken old bytes before → Lines bytes old.channels before)
EndsInput old new (Row count) =
    (count ≡ 0)
    × ((bytes : List ℕ) (before : Stream) → HasTaken old bytes before
    → LacksLastEnd bytes old.channels (before ++ new.row ∷ []))

-- the end of input is the first bad place; the rows before it are those that were shown
abbrev pub EndsInFault : FedRows → RowFault → Type 0
EndsInFault old fault =
    (bytes : List ℕ) (before : Stream) → HasTaken old bytes before → StopsAfter old.channels bytes before fault
