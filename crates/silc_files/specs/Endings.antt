-- What the ways in which a command ends have in common.
use Rattle.std.specs.Prelude.{◌≡◌, ◌≢◌, ◌⊎◌, ℕ, List, [], ◌∷◌, None, Bool, true}
use Rattle.desk_core.specs.View.{Name, Content, Files, View}
use Rattle.desk_core.specs.Desk.{IfSpecified, WhereSpecified, WriteFaultsRose, HasOutput, NoOtherBegins}
use Rattle.desk_core.specs.Whole.{IsUnchangedButInput, IsReadThrough, IsPutInPart}

-- The files were rejected for this reason, after the inputs up to this last one were read through. At most the input
-- and the faults changed.
pub record IsRejected (last : Name) (limit : ℕ) (reason : Files → Type 0) (old new : View) : Type 0 where
  pub unchanged : IsUnchangedButInput old new
  pub read : IsReadThrough last limit old new
  pub why : WhereSpecified old reason

-- Writing OUT failed, after the last input was read through. OUT was not created, or has a prefix of these bytes, and
-- every other file is as it was.
pub record IsNotWritten (last : Name) (limit : ℕ) (out : Name) (bytes : Content) (old new : View) : Type 0 where
  pub rose : WriteFaultsRose out old new
  pub read : IsReadThrough last limit old new
  pub files : IfSpecified (IsPutInPart out bytes) old.files new.files

-- the last input was read through, and OUT was closed
pub record IsFinished (last : Name) (limit : ℕ) (old new : View) : Type 0 where
  pub read : IsReadThrough last limit old new
  pub closed : HasOutput None new

-- the name is one of these
abbrev pub IsAmong : List Name → Name → Type 0
IsAmong [] name = ⊥
IsAmong (one ∷ names) name = (name ≡ one) ⊎ IsAmong names name

-- no name but an input begins to be read
abbrev pub BeginsOnly : (IsInput : Name → Type 0) → (Name → Bool) → (Name → Bool) → Type 0
BeginsOnly IsInput old new = (name : Name) → (IsInput name → ⊥) → new name ≡ true → old name ≡ true

-- every file but OUT is as it was
abbrev pub ChangesOnly : Name → Files → Files → Type 0
ChangesOnly out before after = (name : Name) → name ≢ out → after name ≡ before name

-- No file but OUT changed, and nothing was printed. No name but an input began to be read, and none but OUT to
-- be written.
pub record UsesOnly (IsInput : Name → Type 0) (out : Name) (old new : View) : Type 0 where
  pub files : IfSpecified (ChangesOnly out) old.files new.files
  pub printed : new.printed ≡ old.printed
  pub reads : BeginsOnly IsInput old.reads new.reads
  pub writes : NoOtherBegins out old.writes new.writes
