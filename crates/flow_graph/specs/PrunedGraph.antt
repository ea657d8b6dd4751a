-- The pruned graph of a flat program.
use Rattle.std.specs.Prelude.{◌≡◌, length}
use Rattle.lists.specs.Rows.{Rows}
use Rattle.recurrences.specs.Kept.{KeepsSolutions}
use Rattle.signal_graph.specs.Flat.{Program}
use Rattle.signal_graph.specs.FlatSolves.{flat_system, flat_out}
use Rattle.signal_graph.specs.GraphOf.{IsGraphOf}
use Rattle.signal_graph.specs.GraphSolves.{graph_system, graph_out}
use Rattle.signal_graph.specs.Keeps.{IsStreamOf}
use Rattle.signal_graph.specs.Pruned.{IsPruned}
use Rattle.signal_graph.specs.Values.{Words}
use Rattle.signal_graph.specs.declared.graph.Graph.{Graph}

-- the graph of the flat program, without the nodes from which no output is reached
pub record IsPrunedGraphOf (p : Program) (g : Graph) : Type 0 where
  pub whole : Graph
  pub graph_of : IsGraphOf p whole
  pub pruned : IsPruned whole g

-- the output rows of the graph are those of the flat program
abbrev pub HaveEqualRows : Program → Graph → Rows → Words → Words → Type 0
HaveEqualRows p g stream words others = graph_out g others (length stream) ≡ flat_out p words (length stream)

-- over each stream of rows in the inputs' types the graph keeps the solutions of the flat program, with equal rows
abbrev pub KeepsFlatRows : Program → Graph → Type 0
KeepsFlatRows p g =
    (stream : Rows) → IsStreamOf p.inputs stream
    → KeepsSolutions (flat_system p stream) (graph_system g stream) (HaveEqualRows p g stream)
