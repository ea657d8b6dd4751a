-- What it is for a flat program and for a graph to keep the solutions of a program.
use Rattle.std.specs.Prelude.{◌≡◌, length}
use Rattle.lists.specs.Rows.{Rows}
use Rattle.recurrences.specs.Kept.{KeepsSolutions}
use Rattle.silage_syntax.specs.Tree.{Program}
use Rattle.silage_meaning.specs.Value.{Words}
use Rattle.silage_meaning.specs.Solves.{IsStream, IsOneSolution, input_types, output_types, out}
use Rattle.element_rules.specs.declared.elements.Elements.{Elements}
use Rattle.signal_graph.specs.Flat as flat
use Rattle.signal_graph.specs.Values as numbered
use Rattle.signal_graph.specs.FlatSolves.{flat_system, flat_out}
use Rattle.signal_graph.specs.GraphSolves.{graph_system, graph_out}
use Rattle.signal_graph.specs.declared.graph.Graph.{Graph}
use Rattle.loop_expand.specs.Kept.{program_system, HaveSameWords}

-- the words of each element are equal in the program and in the flat program, and so are the output rows
pub record AreEqualWords (p : Program) (es : Elements) (f : flat.Program) (stream : Rows)
    (words : Words) (others : numbered.Words) : Type 0 where
  pub elements : HaveSameWords es stream words others
  pub rows : flat_out f others (length stream) ≡ out p words (length stream)

-- over each stream of valid rows the flat program keeps the solutions of the program
abbrev pub KeepsElementSolutions : Program → Elements → flat.Program → Type 0
KeepsElementSolutions p es f =
    (stream : Rows) → IsStream p stream
    → KeepsSolutions (program_system p stream) (flat_system f stream) (AreEqualWords p es f stream)

-- the output rows of the graph are those of the program
abbrev pub HaveEqualRows : Program → Graph → Rows → Words → numbered.Words → Type 0
HaveEqualRows p g stream words others = graph_out g others (length stream) ≡ out p words (length stream)

-- The graph has the input and output words of the program. Over each stream of valid rows the program has exactly one
-- solution, and so has the graph: solutions of the one give those of the other, with equal output rows.
pub record KeepsProgramSolutions (p : Program) (g : Graph) : Type 0 where
  pub inputs : g.inputs ≡ input_types p
  pub outs : g.outs ≡ length (output_types p)
  pub one_solution : (stream : Rows) → IsStream p stream → (words : Words) × IsOneSolution p stream words
  pub solutions : (stream : Rows)
      → IsStream p stream
      → KeepsSolutions (program_system p stream) (graph_system g stream) (HaveEqualRows p g stream)
