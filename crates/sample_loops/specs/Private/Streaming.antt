-- The loop over the pieces of a stream of samples.
use Rattle.std.specs.Prelude.{◌≡◌, ℕ, ◌+◌, ◌≤◌, List, ◌∷◌, [], ◌++◌, length, ℤ}
use Rattle.lists.specs.Rows.{Rows}
use Rattle.desk_core.specs.Desk.{FaultsNeverFall, IsSameInput}
use Rattle.desk_core.specs.View.{Content, View}
use Rattle.micro_image.specs.declared.conflict.Conflict.{Conflict as ConflictValue}
use Rattle.sample_io.specs.declared.channel.Channel.{Channel}
use Rattle.sample_io.specs.Channels.{IsRow}
use Rattle.sample_io.specs.FedRows.{FedRows}
use Rattle.sample_io.specs.Pieces.{HasTaken}
use Rattle.sample_io.specs.Samples.{RowsOf, printed}
use Rattle.sample_loops.specs.Output.{HasPut}
use Rattle.sample_loops.specs.Reading.{HaveLastRow, HasEarly, IsSoundEarly}
use Rattle.sample_loops.specs.Streams.{HasRead, HasReadAll, HasReadRows, HasReadFault, HasReadTooMany, IsCutShort}
use Rattle.sample_loops.specs.Streams.{ChangesOutputAlone}
use Rattle.sample_loops.specs.declared.stream.StreamFault.{StreamFault}
use Rattle.sample_loops.specs.declared.stream.StreamFault.TheVariants.{Desk, Row, TooLong, Conflict}

-- the output has these bytes more; all else but the place and the faults is as it was
pub record HasGrown (more : Content) (old new : View) : Type 0 where
  pub files : HasPut more old new
  pub output : new.output ≡ old.output
  pub input : IsSameInput old new
  pub printed : new.printed ≡ old.printed
  pub reads : new.reads ≡ old.reads
  pub writes : new.writes ≡ old.writes

-- of what the rows put, a part is written, and the rest waits
pub record HasPassed (channels : List Channel) (bytes : Content) (rows puts : Rows) (waits : Content) (start now : View)
    : Type 0 where
  pub never_fall : FaultsNeverFall start now
  pub written : Content
  pub text : written ++ waits ≡ printed puts
  pub grown : HasGrown written start now
  pub early : HasEarly channels bytes rows puts (length written) now.place
  pub sound : IsSoundEarly channels bytes now.place

-- these rows were read, and what they put is passed on
pub record IsHeld (end : ℕ) (channels : List Channel) (gives : Rows → Rows → Type 0) (rows puts : Rows)
    (waits : Content)
    (start now : View) : Type 0 where
  pub bytes : Content
  pub read : HasReadRows end channels bytes rows start now
  pub given : gives rows puts
  pub passed : HasPassed channels bytes rows puts waits start now

-- what is true of an engine between two pieces, where so many bytes are left
pub record CanRun (same ready : Type 0) (accepts : List ℤ → Type 0) (channels : List Channel)
    (age first left end : ℕ) : Type 0
  where
    pub is_same : same
    pub is_ready : ready
    pub fits : (row : List ℤ) → IsRow channels row → accepts row
    pub young : age + left ≤ first + end

-- all bytes that were read were taken, and the rows that they end ran
pub record IsRunning (channels : List Channel) (ran : Rows → Rows → Type 0) (left end : ℕ) (rows : FedRows)
    (waits : Content) (start now : View) : Type 0 where
  pub bytes : Content
  pub before : Rows
  pub puts : Rows
  pub left_is : length bytes + left ≡ end
  pub read : HasRead bytes start now
  pub channels_are : rows.channels ≡ channels
  pub taken : HasTaken rows bytes before
  pub as_many : length puts ≡ length before
  pub ran_rows : ran before puts
  pub passed : HasPassed channels bytes before puts waits start now

-- so it is at the end of the input, and nothing waits
pub record IsAtEnd (channels : List Channel) (ran : Rows → Rows → Type 0) (end : ℕ) (rows : FedRows)
    (waits : Content)
    (start now : View) : Type 0 where
  pub left : ℕ
  pub running : IsRunning channels ran left end rows [] start now
  pub all : HasReadAll end running.bytes start now
  pub none_waits : waits ≡ []

-- all rows of the input ran, and what they put is passed on
pub record RunsInput (end : ℕ) (channels : List Channel) (ran : Rows → Rows → Type 0) (waits : Content)
    (start now : View)
    : Type 0 where
  pub rows : Rows
  pub puts : Rows
  pub held : IsHeld end channels ran rows puts waits start now
  pub all : HasReadAll end held.bytes start now
  pub rows_of : RowsOf held.bytes channels rows

-- the row with a conflict was read, behind these rows and in the last piece of what was read
pub record HasReadConflict (end : ℕ) (channels : List Channel) (meets : Rows → ConflictValue → Type 0) (rows : Rows)
    (conflict : ConflictValue) (start now : View) : Type 0 where
  pub bytes : Content
  pub row : List ℤ
  pub read : HasRead bytes start now
  pub within : length bytes ≤ end
  pub rows_are : HaveLastRow (HasReadAll end bytes start now) channels bytes (rows ++ row ∷ [])
  pub met : meets (rows ++ row ∷ []) conflict

-- what was read shows why not all rows of the input ran; these are the rows before that
abbrev pub ShowsRefusal : (end : ℕ)
    → List Channel
    → (meets : Rows → ConflictValue → Type 0)
    → Rows
    → (start now : View)
    → StreamFault
    → Type 0
ShowsRefusal end channels meets rows start now Desk = ⊥
ShowsRefusal end channels meets rows start now (Row fault) = HasReadFault end channels rows fault start now
ShowsRefusal end channels meets rows start now TooLong = HasReadTooMany end channels rows start now
ShowsRefusal end channels meets rows start now (Conflict conflict) =
    HasReadConflict end channels meets rows conflict start now

-- so not all rows ran, and what the rows before that put is passed on
pub record IsRefused (end : ℕ) (channels : List Channel) (gives : Rows → Rows → Type 0)
    (meets : Rows → ConflictValue → Type 0) (start : View) (waits : Content) (now : View) (fault : StreamFault)
    : Type 0 where
  pub rows : Rows
  pub puts : Rows
  pub held : IsHeld end channels gives rows puts waits start now
  pub shown : ShowsRefusal end channels meets rows start now fault

-- a call of the desk failed, and no file but the output changed
pub record IsCut (end : ℕ) (channels : List Channel) (gives : Rows → Rows → Type 0) (start now : View) : Type 0 where
  pub cut : IsCutShort end channels gives start now
  pub alone : ChangesOutputAlone start now

-- why not all rows of the input ran
abbrev pub StopsInInput : (end : ℕ)
    → List Channel
    → (gives : Rows → Rows → Type 0)
    → (meets : Rows → ConflictValue → Type 0)
    → (start : View)
    → (waits : Content)
    → (now : View)
    → StreamFault
    → Type 0
StopsInInput end channels gives meets start waits now Desk = IsCut end channels gives start now
StopsInInput end channels gives meets start waits now fault = IsRefused end channels gives meets start waits now fault
