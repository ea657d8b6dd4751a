-- The types of a program's words, and what `ports_of` answers for a source.
use Rattle.std.specs.Prelude.{◌≡◌, ℕ, List, Result, Ok, Err}
use Rattle.net_fit.specs.declared.ports.Ports.{Ports}
use Rattle.silage_meaning.specs.Solves.{input_types, output_types}
use Rattle.silage_syntax.specs.Tree.{Program}
use Rattle.source_faults.specs.Faults.{HasProgram, IsFrontFault, IsOfSource}
use Rattle.statuses.specs.declared.status.Status.{Status}
use Rattle.statuses.specs.declared.status.Status.TheVariants.{Memory, FrontEnd}

-- the types of main's words
abbrev pub program_ports : Program → Ports
program_ports p = record { inputs = input_types p; outs = output_types p }

-- the source has a program, whose words have these types
pub record ArePortsOf (source : List ℕ) (ports : Ports) : Type 0 where
  pub program : Program
  pub read : HasProgram source program
  pub ports_are : ports ≡ program_ports program

-- why there are none
abbrev pub IsNoPorts : (source : List ℕ) → Status → Type 0
IsNoPorts source Memory = Unit {0}
IsNoPorts source (FrontEnd fault) = IsOfSource fault × IsFrontFault source fault
IsNoPorts source _ = ⊥

-- the call answers the types of this program, or there is no memory
abbrev pub AnswersPorts : Program → Result Ports Status → Type 0
AnswersPorts program (Ok ports) = ports ≡ program_ports program
AnswersPorts program (Err status) = status ≡ Memory
