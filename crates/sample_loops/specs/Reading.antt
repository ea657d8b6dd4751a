-- What bytes that were read of a sample file show of it: its rows, and its first bad place.
use Rattle.std.specs.Prelude.{◌≡◌, ◌⊎◌, ℕ, ◌+◌, ◌<◌, ◌≤◌, List, ◌++◌, length, take}
use Rattle.lists.specs.Rows.{Rows}
use Rattle.desk_core.specs.View.{Content}
use Rattle.sample_io.specs.declared.RowFault.{RowFault}
use Rattle.sample_io.specs.declared.channel.Channel.{Channel}
use Rattle.sample_io.specs.Samples.{Lines, RowsOf, StopsAfter, printed}

-- the most bytes of a piece of the input
abbrev pub piece_size : ℕ
piece_size = 4096

-- the lines of these rows stand at the front of the bytes
abbrev pub BeginsWith : Content → List Channel → Rows → Type 0
BeginsWith bytes channels rows =
    (front : Content) × (rest : Content) × (bytes ≡ front ++ rest) × Lines front channels rows

-- the lines of these rows stand at the front of the bytes, and fewer bytes than a piece behind them
abbrev pub EndsInLastPiece : Content → List Channel → Rows → Type 0
EndsInLastPiece bytes channels rows =
    (front : Content) × (rest : Content) × (bytes ≡ front ++ rest) × Lines front channels rows
    × (length rest < piece_size)

-- the lines of these rows stand at the front of the bytes read; or the bytes are all of the input, as `all` says, and
-- these are its rows
abbrev pub HaveRows : (all : Type 0) → List Channel → Content → Rows → Type 0
HaveRows all channels bytes rows = BeginsWith bytes channels rows ⊎ (all × RowsOf bytes channels rows)

-- and the last of the rows ends among the last bytes read, so many as a piece has at most
abbrev pub HaveLastRow : (all : Type 0) → List Channel → Content → Rows → Type 0
HaveLastRow all channels bytes rows = EndsInLastPiece bytes channels rows ⊎ (all × RowsOf bytes channels rows)

-- The first bad place is among the bytes read, whatever comes after them; or they are all of the input, as `all` says,
-- and it is their end. These are the rows before it.
abbrev pub HaveBadPlace : (all : Type 0) → List Channel → Content → Rows → RowFault → Type 0
HaveBadPlace all channels bytes rows fault =
    ((more : Content) → StopsAfter channels (bytes ++ more) rows fault) ⊎ (all × StopsAfter channels bytes rows fault)

-- no byte that stands a piece before the place of the input is bad, whatever comes after it
abbrev pub IsSoundEarly : List Channel → Content → (place : ℕ) → Type 0
IsSoundEarly channels bytes place =
    (front rest : Content) (some : Rows) (fault : RowFault)
    → bytes ≡ front ++ rest → length front + piece_size ≤ place
    → ((more : Content) → StopsAfter channels (front ++ more) some fault) → ⊥

-- lines that end a piece before the place of the input have their rows among these, and what those put is among the
-- first bytes, so many as `count` says
abbrev pub HasEarly : List Channel → Content → (rows puts : Rows) → (count place : ℕ) → Type 0
HasEarly channels bytes rows puts count place =
    (front rest : Content) (some : Rows)
    → bytes ≡ front ++ rest → Lines front channels some → length front + piece_size ≤ place
    → (length some ≤ length rows) × (length (printed (take (length some) puts)) ≤ count)
