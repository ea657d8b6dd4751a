-- What SRC has for the commands that read it.
use Rattle.std.specs.Prelude.{◌≡◌, ℕ, List}
use Rattle.lists.specs.Rows.{Rows}
use Rattle.desk_core.specs.View.{Name, Files}
use Rattle.desk_core.specs.Desk.{content_of}
use Rattle.source_faults.specs.Faults.{HasProgram, IsFrontFault}
use Rattle.source_faults.specs.declared.fault.FrontFault.{FrontFault}
use Rattle.silage_syntax.specs.Tree.{Program}
use Rattle.silage_meaning.specs.Value.{Words}
use Rattle.silage_meaning.specs.Solves.{IsStream, IsOneSolution}

-- the program has exactly one solution over each stream of valid rows
abbrev pub HasOneSolution : Program → Type 0
HasOneSolution program =
    (stream : Rows) → IsStream program stream → (words : Words) × IsOneSolution program stream words

-- the source has this program and no other, which has exactly one solution over each stream of valid rows
pub record IsProgramOf (source : List ℕ) (program : Program) : Type 0 where
  pub read : HasProgram source program
  pub unique : (other : Program) → HasProgram source other → other ≡ program
  pub solved : HasOneSolution program

-- SRC has the program
abbrev pub IsProgramIn : Name → Program → Files → Type 0
IsProgramIn src program files = IsProgramOf (content_of (files src)) program

-- SRC has a program
abbrev pub HasSomeProgram : Name → Files → Type 0
HasSomeProgram src files = (program : Program) × IsProgramIn src program files

-- the source is accepted
abbrev pub IsAcceptedSource : List ℕ → Type 0
IsAcceptedSource source = (program : Program) × HasProgram source program

-- SRC has the fault
abbrev pub HasFrontFault : Name → FrontFault → Files → Type 0
HasFrontFault src fault files = IsFrontFault (content_of (files src)) fault
