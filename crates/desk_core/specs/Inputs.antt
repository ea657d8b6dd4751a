-- The current input of a desk that never fails: its name and its bytes.
use Rattle.std.specs.Prelude.{List, [], Option, Some, None}
use Rattle.desk_core.specs.View.{Name, Content}
use Rattle.desk_core.specs.Stored.{input_name, input_bytes}
use Rattle.desk_core.specs.declared.input.CurrentInput.{CurrentInput}
use Rattle.desk_core.specs.declared.input.CurrentInput.TheVariants.{Absent, Missing, File}
use Rattle.desk_core.specs.declared.stored.Stored.{Stored}

-- the name of the input, or `Some None` where there is none; it is unspecified where no file has it
abbrev pub name_of : List Stored → CurrentInput → Option (Option Name)
name_of files Absent = Some None
name_of files Missing = None
name_of files (File input) = Some (input_name files (Some input))

-- the bytes of the input, which are none where no file has its name
abbrev pub held_by : List Stored → CurrentInput → Option Content
held_by files Absent = None
held_by files Missing = Some []
held_by files (File input) = input_bytes files (Some input)

-- the name of the input that is opened for a name, where its file has these bytes
abbrev pub opened_name : Name → Option Content → Option (Option Name)
opened_name name None = None
opened_name name (Some bytes) = Some (Some name)
