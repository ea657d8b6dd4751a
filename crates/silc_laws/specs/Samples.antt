-- What a run over the bytes of samples comes to where no call of the desk fails: to the end of its stream, or it stops.
-- `end` is the least number of bytes that are too many, `clear` says of rows that no conflict comes with any of them,
-- and `meets` which conflict comes with the last of them.
use Rattle.std.specs.Prelude.{◌≡◌, ℕ, ◌<◌, ◌≤◌, List, length, take, Some}
use Rattle.lists.specs.Rows.{Rows}
use Rattle.desk_core.specs.View.{Content, View}
use Rattle.desk_core.specs.Desk.{ReadFailed, WriteFailed}
use Rattle.micro_image.specs.declared.conflict.Conflict.{Conflict as ConflictValue}
use Rattle.sample_io.specs.declared.RowFault.{RowFault}
use Rattle.sample_io.specs.declared.channel.Channel.{Channel}
use Rattle.sample_io.specs.Pieces.{AreLinesSoFar}
use Rattle.sample_io.specs.Samples.{RowsOf}
use Rattle.sample_loops.specs.Reading.{HaveRows, HaveBadPlace}
use Rattle.sample_loops.specs.declared.stream.StreamFault.{StreamFault}
use Rattle.sample_loops.specs.declared.stream.StreamFault.TheVariants.{Desk, Row, TooLong, Conflict}

-- the bytes are not too many, and are the rows of a stream, with which no conflict comes
pub record RunsThrough (end : ℕ) (channels : List Channel) (clear : Rows → Type 0) (bytes : Content) : Type 0 where
  pub within : length bytes < end
  pub stream : Rows
  pub rows_of : RowsOf bytes channels stream
  pub runs : clear stream

-- the lines of these rows stand at the front of the bytes, before there are too many; or the bytes are not too many,
-- and these are their rows
abbrev pub HasFirstRows : (end : ℕ) → List Channel → Content → Rows → Type 0
HasFirstRows end channels bytes rows = HaveRows (length bytes < end) channels (take end bytes) rows

-- The first bad place comes before there are too many bytes, whatever comes after those; or the bytes are not too many,
-- and it is their end. These are the rows before it.
abbrev pub HasFirstBadPlace : (end : ℕ) → List Channel → Content → Rows → RowFault → Type 0
HasFirstBadPlace end channels bytes rows fault =
    HaveBadPlace (length bytes < end) channels (take end bytes) rows fault

-- There are too many bytes, and before that the lines of these rows and a line begun, of which no byte is bad.
pub record AreTooMany (end : ℕ) (channels : List Channel) (bytes : Content) (rows : Rows) : Type 0 where
  pub many : end ≤ length bytes
  pub lines : AreLinesSoFar channels (take end bytes) rows

-- why a run over the bytes stops: the rows before it meet no conflict
abbrev pub StopsRun : (end : ℕ)
    → List Channel
    → (clear : Rows → Type 0)
    → (meets : Rows → ConflictValue → Type 0)
    → Content
    → StreamFault
    → Type 0
StopsRun end channels clear meets bytes Desk = ⊥
StopsRun end channels clear meets bytes (Row fault) =
    (rows : Rows) × HasFirstBadPlace end channels bytes rows fault × clear rows
StopsRun end channels clear meets bytes TooLong = (rows : Rows) × AreTooMany end channels bytes rows × clear rows
StopsRun end channels clear meets bytes (Conflict conflict) =
    (rows : Rows) × HasFirstRows end channels bytes rows × meets rows conflict

-- an evaluation meets no conflict
abbrev pub IsAlwaysClear : Rows → Type 0
IsAlwaysClear rows = Unit {0}

abbrev pub MeetsNone : Rows → ConflictValue → Type 0
MeetsNone rows conflict = ⊥

-- The current input has these bytes. No fault rose that lets a run over it answer that a call of the desk failed: of
-- reading each name that the desk reads, or of writing each that it writes.
pub record ReadsWithoutFault (bytes : Content) (old new : View) : Type 0 where
  pub input : old.input_bytes ≡ Some (Some bytes)
  pub no_read : ReadFailed old new → ⊥
  pub no_write : WriteFailed old new → ⊥
