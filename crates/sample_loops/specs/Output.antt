-- What the current output of a desk gets.
use Rattle.std.specs.Prelude.{◌≡◌, ◌≢◌, ◌++◌, Option, Some, None}
use Rattle.desk_core.specs.View.{Name, Content, Files, View}
use Rattle.desk_core.specs.Desk.{IfSpecified, content_of}

-- The file has these bytes more at its end, and every other file is as it was. A file that is not there counts as one
-- of no bytes.
pub record IsLonger (name : Name) (more : Content) (old new : Files) : Type 0 where
  pub here : (bytes : Content) → old name ≡ Some bytes → new name ≡ Some (bytes ++ more)
  pub missing : old name ≡ None → content_of (new name) ≡ more
  pub others : (s : Name) → s ≢ name → new s ≡ old s

-- the output has these bytes more; where there is none, the files are as they were
pub record GrowsBy (output : Option (Option Name)) (more : Content) (old new : Files) : Type 0 where
  pub named : (name : Name) → output ≡ Some (Some name) → IsLonger name more old new
  pub none : output ≡ Some None → new ≡ old

-- the output got these bytes
abbrev pub HasPut : Content → View → View → Type 0
HasPut bytes old new = IfSpecified (GrowsBy old.output bytes) old.files new.files
