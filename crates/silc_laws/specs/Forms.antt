-- Commands that write a file.
use Rattle.std.specs.Prelude.{◌≡◌, List, String, Some}
use Rattle.std.specs.declared.alloc.Global.{Global}
use Rattle.command_words.specs.Command.{Command, IsCommandIn, output_of}
use Rattle.desk_core.specs.View.{Name}

-- the words are a command that writes this file
abbrev pub IsCommandTo : List (String Global) → Name → Type 0
IsCommandTo words out = (command : Command) × IsCommandIn words command × (output_of command ≡ Some out)
