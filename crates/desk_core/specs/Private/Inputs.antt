-- The current input of a desk that never fails, where files are put or created.
use Rattle.std.specs.Prelude.{◌≡◌, List, bytes_eq, if◌then◌else◌}
use Rattle.desk_core.specs.View.{Name}
use Rattle.desk_core.specs.Stored.{name_at, IsOpen}
use Rattle.desk_core.specs.declared.input.CurrentInput.{CurrentInput}
use Rattle.desk_core.specs.declared.input.CurrentInput.TheVariants.{Absent, Missing, File}
use Rattle.desk_core.specs.declared.stored.OpenInput.{OpenInput}
use Rattle.desk_core.specs.declared.stored.Stored.{Stored}

-- a file that is the input is the first of its name, and the bytes that it had when it was opened are there
abbrev pub InputStands : List Stored → CurrentInput → Type 0
InputStands files current = (input : OpenInput) → current ≡ File input → IsOpen files input

-- the input, unless it is the file of that name
abbrev pub apart_from : List Stored → CurrentInput → Name → CurrentInput
apart_from files Absent s = Absent
apart_from files Missing s = Missing
apart_from files (File input) s = if bytes_eq (name_at files input.file) s then Absent else File input
