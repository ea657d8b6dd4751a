-- What a desk that never fails holds.
use Rattle.std.specs.Prelude.{◌≡◌, ◌≢◌, ℕ, ◌+◌, Option, Some, None, Bool, true, false, if◌then◌else◌}
use Rattle.desk_core.specs.View.{Name, Content, Files, View}
use Rattle.desk_core.specs.Desk.{IsPut, content_of}
use Rattle.desk_core.specs.Stored.{lookup}
use Rattle.desk_core.specs.Inputs.{name_of, held_by, opened_name}
use Rattle.desk_core.specs.declared.never_fails.NeverFails.{NeverFails}

pub record NeverState : Type 0 where
  pub files : Files
  -- a file was created, so the files are no longer specified
  pub created : Bool
  pub place : ℕ
  -- The name of the current input, or `Some None` where there is none. It is unspecified where no file has it.
  pub input_name : Option (Option Name)
  -- the bytes of its file as it was opened, or none where no file has its name
  pub input_bytes : Option Content

abbrev pub state : NeverFails → NeverState
state desk = record {
  files = lookup desk.files;
  created = desk.created;
  place = desk.place;
  input_name = name_of desk.files desk.input;
  input_bytes = held_by desk.files desk.input;
}

-- The files are specified until one is created, and till then there is no output. What is printed is unspecified. The
-- desk counts as reading and writing each name, and has no faults.
abbrev pub view_of_state : NeverState → View
view_of_state desk = record {
  files = if desk.created then None else Some desk.files;
  place = desk.place;
  input_name = desk.input_name;
  input_bytes = Some desk.input_bytes;
  output = if desk.created then None else Some None;
  printed = None;
  reads = λ s. true;
  writes = λ s. true;
  read_faults = λ s. 0;
  write_faults = λ s. 0;
  print_faults = 0;
}

abbrev pub view_of : NeverFails → View
view_of desk = view_of_state (state desk)

-- a desk that holds nothing
abbrev pub empty_state : NeverState
empty_state = record {
  files = λ s. None;
  created = false;
  place = 0;
  input_name = Some None;
  input_bytes = None;
}

-- the input is the same
pub record KeepsInput (old new : NeverState) : Type 0 where
  pub named : new.input_name ≡ old.input_name
  pub bytes : new.input_bytes ≡ old.input_bytes

-- there is no input
pub record LacksInput (desk : NeverState) : Type 0 where
  pub named : desk.input_name ≡ Some None
  pub bytes : desk.input_bytes ≡ None

-- The file has these bytes. It is no input any more; another input, and all else, is as it was.
pub record HasPut (name : Name) (bytes : Content) (old new : NeverState) : Type 0 where
  pub files : IsPut name bytes old.files new.files
  pub input_ends : old.input_name ≡ Some (Some name) → LacksInput new
  pub other_input : old.input_name ≢ Some (Some name) → KeepsInput old new
  pub created : new.created ≡ old.created
  pub place : new.place ≡ old.place

-- the named file is the input, from its start on, or an empty input where there is none
abbrev pub opened : Name → NeverState → NeverState
opened name desk = record desk {
  place = 0;
  input_name = opened_name name (desk.files name);
  input_bytes = Some (content_of (desk.files name));
}

-- so many bytes of the input were read
abbrev pub after_read : ℕ → NeverState → NeverState
after_read n desk = record desk { place = desk.place + n }
