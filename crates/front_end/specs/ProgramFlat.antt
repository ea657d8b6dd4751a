-- The flat program of a program.
use Rattle.silage_syntax.specs.Tree.{Program}
use Rattle.element_rules.specs.Expansion.{IsExpansion}
use Rattle.element_rules.specs.declared.elements.Elements.{Elements}
use Rattle.signal_graph.specs.Flat as flat
use Rattle.loop_expand.specs.FlatOf.{IsFlatOf}
use Rattle.loop_expand.specs.KeepsProgram.{KeepsElementSolutions}

-- the flat program has the elements of the program, by their numbers
pub record IsProgramFlat (p : Program) (f : flat.Program) : Type 0 where
  pub elements : Elements
  pub expansion : IsExpansion p elements
  pub flat_of : IsFlatOf p elements f

-- over each stream of valid rows the flat program keeps the solutions of the program
abbrev pub KeepsFlatProgram : Program → flat.Program → Type 0
KeepsFlatProgram p f = (es : Elements) → IsExpansion p es → KeepsElementSolutions p es f
