-- What the checks and the flat program say of a program that was read.
use Rattle.std.specs.Prelude.{◌≡◌, ℕ, List}
use Rattle.fault_order.specs.Ranked.{IsClear, IsFirst}
use Rattle.silage_syntax.specs.Tree.{Program}
use Rattle.silage_meaning.specs.Rules.{HasNoDelaylessLoop}
use Rattle.silage_meaning.specs.Solves.{output_types}
use Rattle.name_rules.specs.NameFaults.{name_faults}
use Rattle.element_rules.specs.ElementFaults.{element_faults}
use Rattle.type_rules.specs.TypeFaults.{type_faults}
use Rattle.signal_graph.specs.Flat as flat
use Rattle.signal_graph.specs.FlatRules.{IsFlat}
use Rattle.signal_graph.specs.FlatSolves.{IsFlatLoopless}
use Rattle.loop_expand.specs.InTypes.{flat_output_types, HasTypedSolutions}
use Rattle.source_faults.specs.Faults.{IsRead, IsOfSource}
use Rattle.front_end.specs.ProgramFlat.{IsProgramFlat, KeepsFlatProgram}
use Rattle.source_faults.specs.Loops.{IsFirstLoop}
use Rattle.source_faults.specs.declared.fault.FrontError.{FrontError}
use Rattle.source_faults.specs.declared.fault.FrontError.TheVariants.{Fault, Memory}
use Rattle.source_faults.specs.declared.fault.FrontFault.{FrontFault}
use Rattle.source_faults.specs.declared.fault.FrontFault.TheVariants.{Name, Def, Kind, Loop}

-- some source is this program
abbrev pub HasSource : Program → Type 0
HasSource program = (source : List ℕ) × IsRead source program

-- no check finds a fault
pub record HasNoFault (program : Program) : Type 0 where
  pub names : IsClear (name_faults program)
  pub elements : IsClear (element_faults program)
  pub types : IsClear (type_faults program)

-- the fault is the first of the program
abbrev pub IsFirstFault : Program → FrontFault → Type 0
IsFirstFault program (Name fault) = IsFirst (name_faults program) fault
IsFirstFault program (Def fault) = IsClear (name_faults program) × IsFirst (element_faults program) fault
IsFirstFault program (Kind fault) =
    IsClear (name_faults program) × IsClear (element_faults program) × IsFirst (type_faults program) fault
IsFirstFault program (Loop elem) =
    IsClear (name_faults program) × IsClear (element_faults program) × IsClear (type_faults program)
    × IsFirstLoop program elem
IsFirstFault program _ = ⊥

-- the program has the fault of the error, or there was no memory
abbrev pub IsCheckError : Program → FrontError → Type 0
IsCheckError program (Fault fault) = IsOfSource fault × IsFirstFault program fault
IsCheckError program Memory = Unit {0}

-- the program has no delay-free loop, and this is its flat program
pub record IsFlatFor (program : Program) (f : flat.Program) : Type 0 where
  pub loops : HasNoDelaylessLoop program
  pub made : IsProgramFlat program f
  pub sound : IsFlat f
  pub loopless : IsFlatLoopless f
  pub keeps : KeepsFlatProgram program f
  pub types : HasTypedSolutions program
  pub outputs : flat_output_types f ≡ output_types program

-- the program has this first delay-free loop, or there was no memory
abbrev pub IsLoopError : Program → FrontError → Type 0
IsLoopError program (Fault (Loop elem)) = IsFirstLoop program elem
IsLoopError program (Fault _) = ⊥
IsLoopError program Memory = Unit {0}
