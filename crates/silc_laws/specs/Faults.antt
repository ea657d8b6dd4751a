-- Which faults let a command answer that a file fault ended it.
use Rattle.std.specs.Prelude.{◌≡◌, ◌⊎◌, Some, None}
use Rattle.command_words.specs.Command.{Command, output_of}
use Rattle.desk_core.specs.View.{Name, View}
use Rattle.desk_core.specs.Desk.{ReadFaultsRose, WriteFaultsRose, PrintFaultsRose}
use Rattle.silc.specs.Endings.{IsInputOf}

-- the faults rose of reading an input of the command
abbrev pub HasReadFault : Command → View → View → Type 0
HasReadFault command old new = (name : Name) × IsInputOf command old name × ReadFaultsRose name old new

-- they rose of writing OUT
abbrev pub HasWriteFault : Command → View → View → Type 0
HasWriteFault command old new = (out : Name) × (output_of command ≡ Some out) × WriteFaultsRose out old new

-- they rose of printing, which a command does that writes no file
abbrev pub HasPrintFault : Command → View → View → Type 0
HasPrintFault command old new = (output_of command ≡ None) × PrintFaultsRose old new

-- the faults rose of reading an input of the command, of writing OUT, or of printing where it prints
abbrev pub HasFaultRisen : Command → View → View → Type 0
HasFaultRisen command old new =
    HasReadFault command old new ⊎ HasWriteFault command old new ⊎ HasPrintFault command old new

-- no such fault rose
abbrev pub HasNoFaultRisen : Command → View → View → Type 0
HasNoFaultRisen command old new = HasFaultRisen command old new → ⊥
