-- What SAMPLES has for the channels of a machine or a program, and how a run over SAMPLES ends before its end.
use Rattle.std.specs.Prelude.{◌≡◌, ◌⊎◌, ◌+◌, ◌<◌, ◌≤◌, ℕ, List, [], ◌∷◌, ◌++◌, length, take, ℤ, None}
use Rattle.lists.specs.Rows.{Rows}
use Rattle.desk_core.specs.View.{Name, Content, Files, View}
use Rattle.desk_core.specs.Desk.{IfSpecified, WhereSpecified, ReadFaultsRose, WriteFaultsRose}
use Rattle.desk_core.specs.Desk.{HasInput, HasOutput, IsPut, content_of}
use Rattle.desk_core.specs.Whole.{IsReadThrough}
use Rattle.micro_image.specs.declared.conflict.Conflict.{Conflict as ConflictValue}
use Rattle.sample_io.specs.declared.RowFault.{RowFault}
use Rattle.sample_io.specs.declared.channel.Channel.{Channel}
use Rattle.sample_io.specs.Pieces.{AreLinesSoFar}
use Rattle.sample_io.specs.Samples.{RowsOf, printed}
use Rattle.sample_loops.specs.Reading.{HaveRows, HaveLastRow, HaveBadPlace, IsSoundEarly, HasEarly}
use Rattle.sample_loops.specs.declared.stream.StreamFault.{StreamFault}
use Rattle.sample_loops.specs.declared.stream.StreamFault.TheVariants.{Desk, Row, TooLong, Conflict}
use Rattle.silc_files.specs.Limits.{samples_limit}

-- the bytes are within the limit, and are the rows of the stream
pub record AreSamples (channels : List Channel) (content : Content) (stream : Rows) : Type 0 where
  pub within : length content ≤ samples_limit
  pub rows : RowsOf content channels stream

-- SAMPLES is the input, and these bytes were read, from its start on; they end a byte beyond the limit at most
pub record HasRead (samples : Name) (bytes : Content) (old new : View) : Type 0 where
  pub input : HasInput samples old new
  pub place : new.place ≡ length bytes
  pub within : length bytes ≤ samples_limit + 1
  pub prefix : WhereSpecified old (λ files. bytes ≡ take (length bytes) (content_of (files samples)))

-- these bytes are all of SAMPLES, and within the limit
pub record AreAll (samples : Name) (bytes : Content) (desk : View) : Type 0 where
  pub within : length bytes ≤ samples_limit
  pub content : WhereSpecified desk (λ files. bytes ≡ content_of (files samples))

-- These bytes were read: the lines of these rows, and a line begun. None of them is bad.
pub record HasReadLines (samples : Name) (channels : List Channel) (rows : Rows) (old new : View) : Type 0 where
  pub bytes : Content
  pub read : HasRead samples bytes old new
  pub lines : AreLinesSoFar channels bytes rows

-- OUT has just what these rows put, and every other file is as it was; `gives` says of rows which they put
pub record HasPut (out : Name) (gives : Rows → Rows → Type 0) (rows : Rows) (old new : View) : Type 0 where
  pub puts : Rows
  pub given : gives rows puts
  pub put : IfSpecified (IsPut out (printed puts)) old.files new.files

-- SAMPLES could not be opened, after the inputs up to this last one were read through and accepted. The last one is
-- still the input, where its reading ended.
pub record AreUnopened (samples last : Name) (limit : ℕ) (accepted : Files → Type 0) (old new : View) : Type 0 where
  pub rose : ReadFaultsRose samples old new
  pub read : IsReadThrough last limit old new
  pub specified : WhereSpecified old accepted

-- SAMPLES was opened and is at its start, and OUT could not be created
pub record IsNotCreated (samples out : Name) (old new : View) : Type 0 where
  pub rose : WriteFaultsRose out old new
  pub input : HasInput samples old new
  pub place : new.place ≡ 0
  pub files : new.files ≡ old.files

-- A read of SAMPLES failed, before it was too long. OUT has what all rows of the lines read put.
pub record IsReadCut (samples out : Name) (channels : List Channel) (gives : Rows → Rows → Type 0) (old new : View)
    : Type 0 where
  pub rose : ReadFaultsRose samples old new
  pub rows : Rows
  pub within : new.place ≤ samples_limit
  pub lines : HasReadLines samples channels rows old new
  pub put : HasPut out gives rows old new

-- A write of OUT failed: OUT has a prefix of what these rows put, and not all of it. In the prefix is what all rows of
-- lines put that ended a piece before the place of the input, and no byte so far before it is bad. Every other file is
-- as it was.
pub record IsWriteCut (samples out : Name) (channels : List Channel) (gives : Rows → Rows → Type 0) (old new : View)
    : Type 0 where
  pub rose : WriteFaultsRose out old new
  pub bytes : Content
  pub rows : Rows
  pub puts : Rows
  pub count : ℕ
  pub read : HasRead samples bytes old new
  pub rows_are : HaveRows (AreAll samples bytes old) channels bytes rows
  pub given : gives rows puts
  pub short : count < length (printed puts)
  pub put : IfSpecified (IsPut out (take count (printed puts))) old.files new.files
  pub early : HasEarly channels bytes rows puts count new.place
  pub sound : IsSoundEarly channels bytes new.place

-- OUT has what all rows of SAMPLES put, but its close failed
pub record IsCloseCut (samples out : Name) (channels : List Channel) (gives : Rows → Rows → Type 0) (old new : View)
    : Type 0 where
  pub rose : WriteFaultsRose out old new
  pub bytes : Content
  pub rows : Rows
  pub read : HasRead samples bytes old new
  pub all : AreAll samples bytes old
  pub rows_of : RowsOf bytes channels rows
  pub put : HasPut out gives rows old new

-- a read of SAMPLES, or a write or the close of OUT, failed, and no refusal stands before that
abbrev pub IsCutShort : (samples out : Name) → List Channel → (gives : Rows → Rows → Type 0) → (old new : View) → Type 0
IsCutShort samples out channels gives old new =
    IsReadCut samples out channels gives old new ⊎ IsWriteCut samples out channels gives old new
    ⊎ IsCloseCut samples out channels gives old new

-- OUT is closed, or its close failed
abbrev pub IsCloseTried : Name → View → View → Type 0
IsCloseTried out old new = HasOutput None new ⊎ WriteFaultsRose out old new

-- The first bad place of SAMPLES is this one, in the last piece that was read. OUT has what the rows before it put, and
-- is closed, or its close failed.
pub record HasBadRow (samples out : Name) (channels : List Channel) (gives : Rows → Rows → Type 0) (fault : RowFault)
    (old new : View) : Type 0 where
  pub bytes : Content
  pub rows : Rows
  pub read : HasRead samples bytes old new
  pub stops : HaveBadPlace (AreAll samples bytes old) channels bytes rows fault
  pub sound : IsSoundEarly channels bytes new.place
  pub put : HasPut out gives rows old new
  pub closed : IsCloseTried out old new

-- SAMPLES is longer than the limit: the input stands a byte beyond it, and no byte before that is bad. OUT has what the
-- rows of the whole lines put, and is closed, or its close failed.
pub record IsTooLong (samples out : Name) (channels : List Channel) (gives : Rows → Rows → Type 0) (old new : View)
    : Type 0 where
  pub rows : Rows
  pub place : new.place ≡ samples_limit + 1
  pub lines : HasReadLines samples channels rows old new
  pub put : HasPut out gives rows old new
  pub closed : IsCloseTried out old new

-- A conflict comes with the last of these rows of SAMPLES, in the last piece that was read. OUT has what the rows
-- before it put, and is closed, or its close failed.
pub record HasConflict (samples out : Name) (channels : List Channel) (gives : Rows → Rows → Type 0)
    (meets : Rows → ConflictValue → Type 0) (conflict : ConflictValue) (old new : View) : Type 0 where
  pub bytes : Content
  pub rows : Rows
  pub row : List ℤ
  pub read : HasRead samples bytes old new
  pub rows_are : HaveLastRow (AreAll samples bytes old) channels bytes (rows ++ row ∷ [])
  pub met : meets (rows ++ row ∷ []) conflict
  pub put : HasPut out gives rows old new
  pub closed : IsCloseTried out old new

-- Why a run over SAMPLES did not come to its end, once SAMPLES was opened. `gives` says of rows which they put, `meets`
-- which conflict comes with the last of them.
abbrev pub IsEndedEarly : (samples out : Name)
    → List Channel
    → (gives : Rows → Rows → Type 0)
    → (meets : Rows → ConflictValue → Type 0)
    → (old new : View)
    → StreamFault
    → Type 0
IsEndedEarly samples out channels gives meets old new Desk =
    IsNotCreated samples out old new ⊎ IsCutShort samples out channels gives old new
IsEndedEarly samples out channels gives meets old new (Row fault) =
    HasBadRow samples out channels gives fault old new
IsEndedEarly samples out channels gives meets old new TooLong = IsTooLong samples out channels gives old new
IsEndedEarly samples out channels gives meets old new (Conflict conflict) =
    HasConflict samples out channels gives meets conflict old new
