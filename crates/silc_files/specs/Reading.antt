-- What reading the inputs of a command does, whatever comes of it, and what it gives.
use Rattle.std.specs.Prelude.{◌≡◌, ◌⊎◌, ℕ, ◌<◌, ◌≤◌, length}
use Rattle.desk_core.specs.View.{Name, Content, View}
use Rattle.desk_core.specs.Desk.{FaultsNeverFall, ReadFaultsRose}
use Rattle.desk_core.specs.Whole.{IsUnchangedButInput, IsAbove, IsReadThrough}
use Rattle.silc_files.specs.Endings.{BeginsOnly}
use Rattle.silc_files.specs.Limits.{text_limit}
use Rattle.silc_files.specs.declared.files.Input.{Input}
use Rattle.silc_files.specs.declared.files.Input.TheVariants.{Whole, TooLong}
use Rattle.statuses.specs.declared.status.Status.{Status}
use Rattle.statuses.specs.declared.status.Status.TheVariants as status

-- at most the input and the faults changed, no count of faults fell, and no name but an input began to be read
pub record OnlyReads (IsInput : Name → Type 0) (old new : View) : Type 0 where
  pub never_fall : FaultsNeverFall old new
  pub unchanged : IsUnchangedButInput old new
  pub begins : BeginsOnly IsInput old.reads new.reads

-- the input is all of the content, which is within the limit, or it is too long
abbrev pub IsInput : Content → Input → Type 0
IsInput content (Whole bytes) = bytes ≡ content
IsInput content TooLong = text_limit < length content

-- an input that was read whole is within the limit
abbrev pub IsShort : Input → Type 0
IsShort (Whole bytes) = length bytes ≤ text_limit
IsShort TooLong = Unit {0}

-- why an input was not read
abbrev pub IsInputError : Name → View → View → Status → Type 0
IsInputError name old new status.Memory = Unit {0}
IsInputError name old new status.Desk = ReadFaultsRose name old new
IsInputError name old new _ = ⊥

-- the file was read through, and has more bytes than the limit
pub record IsTooLong (name : Name) (limit : ℕ) (old new : View) : Type 0 where
  pub read : IsReadThrough name limit old new
  pub above : IsAbove limit name old

-- why a file was not read whole; `too_long` is the status where it has more bytes than the limit
abbrev pub IsReadError : Name → ℕ → Status → View → View → Status → Type 0
IsReadError name limit too_long old new error =
    (error ≡ status.Memory)
    ⊎ ((error ≡ status.Desk) × ReadFaultsRose name old new)
    ⊎ ((error ≡ too_long) × IsTooLong name limit old new)
