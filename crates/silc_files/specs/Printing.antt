-- What printing does to a desk.
use Rattle.std.specs.Prelude.{◌≡◌, ℕ, ◌++◌, take}
use Rattle.desk_core.specs.View.{Name, Content, View}
use Rattle.desk_core.specs.Desk.{IsSameInput}
use Rattle.silc_files.specs.Endings.{BeginsOnly}

-- the printed bytes grew by these
abbrev pub IsPrintedMore : Content → Content → Content → Type 0
IsPrintedMore bytes before after = after ≡ before ++ bytes

-- the printed bytes grew by a prefix of these
abbrev pub IsPrintedInPart : Content → Content → Content → Type 0
IsPrintedInPart bytes before after = (k : ℕ) × IsPrintedMore (take k bytes) before after

-- all but the printed bytes and the faults is as it was
pub record PrintsOnly (old new : View) : Type 0 where
  pub files : new.files ≡ old.files
  pub input : IsSameInput old new
  pub place : new.place ≡ old.place
  pub output : new.output ≡ old.output
  pub reads : new.reads ≡ old.reads
  pub writes : new.writes ≡ old.writes

-- No file and no output changed. No name but an input began to be read, and none to be written.
pub record ChangesNoFile (IsInput : Name → Type 0) (old new : View) : Type 0 where
  pub files : new.files ≡ old.files
  pub output : new.output ≡ old.output
  pub reads : BeginsOnly IsInput old.reads new.reads
  pub writes : new.writes ≡ old.writes
