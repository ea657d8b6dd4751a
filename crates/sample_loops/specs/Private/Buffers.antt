-- A buffer before the current output of a desk.
use Rattle.std.specs.Prelude.{◌≡◌, ℕ, ◌<◌, ◌≤◌, ◌++◌, length, take}
use Rattle.desk_core.specs.Desk.{FaultsNeverFall, IsSameInput}
use Rattle.desk_core.specs.View.{Content, View}
use Rattle.sample_loops.specs.Output.{HasPut}

-- the output has these bytes more; all else but the faults is as it was
pub record IsAppended (more : Content) (old new : View) : Type 0 where
  pub files : HasPut more old new
  pub output : new.output ≡ old.output
  pub input : IsSameInput old new
  pub place : new.place ≡ old.place
  pub printed : new.printed ≡ old.printed
  pub reads : new.reads ≡ old.reads
  pub writes : new.writes ≡ old.writes

-- the output has a prefix of these bytes more, and not all of them; all else but the faults is as it was
abbrev pub IsAppendedInPart : Content → View → View → Type 0
IsAppendedInPart more old new = (k : ℕ) × (k < length more) × IsAppended (take k more) old new

-- these bytes came behind those that waited; what is written now and what waits still are all of them
abbrev pub PassesOn : Content → Content → Content → View → View → Type 0
PassesOn waited more waits old new =
    (written : Content) × (written ++ waits ≡ waited ++ more) × IsAppended written old new

-- so many of the bytes are written, and no count of faults fell
pub record IsAppendedSoFar (bytes : Content) (done : ℕ) (old new : View) : Type 0 where
  pub never_fall : FaultsNeverFall old new
  pub within : done ≤ length bytes
  pub appended : IsAppended (take done bytes) old new
