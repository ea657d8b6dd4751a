-- What reading or writing a file whole does.
use Rattle.std.specs.Prelude.{◌≡◌, ◌≢◌, ◌⊎◌, ℕ, ◌+◌, ◌<◌, ◌≤◌, min, length, take, Some, None}
use Rattle.desk_core.specs.View.{Name, Content, Files, View}
use Rattle.desk_core.specs.Desk.{IfSpecified, WhereSpecified, IsPut, content_of, HasInput, HasOutput, HasNoInput}
use Rattle.desk_core.specs.Desk.{IsSameInput, NoneBegins, NoOtherBegins, IsReading}

-- at most the input and the faults changed
pub record IsUnchangedButInput (old new : View) : Type 0 where
  pub files : new.files ≡ old.files
  pub output : new.output ≡ old.output
  pub printed : new.printed ≡ old.printed
  pub writes : new.writes ≡ old.writes

-- these are all bytes of the file, and not more than the limit; the input is at their end
pub record IsReadWhole (name : Name) (limit : ℕ) (bytes : Content) (old new : View) : Type 0 where
  pub within : length bytes ≤ limit
  pub reading : IsReading name (length bytes) old new
  pub content : WhereSpecified old (λ files. bytes ≡ content_of (files name))

-- the file has more bytes than the limit
abbrev pub IsAbove : ℕ → Name → View → Type 0
IsAbove limit name desk = WhereSpecified desk (λ files. limit < length (content_of (files name)))

-- the input is the named file, which was read to its end, or to one byte beyond the limit where it is longer
pub record IsReadThrough (name : Name) (limit : ℕ) (old new : View) : Type 0 where
  pub input : HasInput name old new
  pub end : (bytes : Content) → new.input_bytes ≡ Some (Some bytes) → new.place ≡ min (length bytes) (limit + 1)

-- the file was made, got these bytes and was closed; all else but the faults is as it was
pub record IsWrittenWhole (name : Name) (bytes : Content) (old new : View) : Type 0 where
  pub files : IfSpecified (IsPut name bytes) old.files new.files
  pub output : HasOutput None new
  pub input_ends : old.input_name ≡ Some (Some name) → HasNoInput new
  pub other_input : old.input_name ≢ Some (Some name) → IsSameInput old new
  pub place : new.place ≡ old.place
  pub printed : new.printed ≡ old.printed
  pub no_other : NoOtherBegins name old.writes new.writes
  pub other_reads : (s : Name) → s ≢ name → new.reads s ≡ old.reads s
  pub no_new_input : NoneBegins old.reads new.reads

-- the file has a prefix of the bytes, and every other file is as it was
abbrev pub IsPrefixPut : Name → Content → Files → Files → Type 0
IsPrefixPut name bytes old new = (k : ℕ) × (k ≤ length bytes) × IsPut name (take k bytes) old new

-- the file was not made, or has a prefix of the bytes, and every other file is as it was
abbrev pub IsPutInPart : Name → Content → Files → Files → Type 0
IsPutInPart name bytes old new = (new ≡ old) ⊎ IsPrefixPut name bytes old new

-- The file was not made, or has a prefix of these bytes. All else but the output and the faults is as it was, and the
-- file may be no input any more.
pub record IsWrittenInPart (name : Name) (bytes : Content) (old new : View) : Type 0 where
  pub files : IfSpecified (IsPutInPart name bytes) old.files new.files
  pub other_input : old.input_name ≢ Some (Some name) → IsSameInput old new
  pub place : new.place ≡ old.place
  pub printed : new.printed ≡ old.printed
  pub no_other : NoOtherBegins name old.writes new.writes
  pub other_reads : (s : Name) → s ≢ name → new.reads s ≡ old.reads s
  pub no_new_input : NoneBegins old.reads new.reads
