-- The graph of a program.
use Rattle.silage_syntax.specs.Tree.{Program}
use Rattle.signal_graph.specs.Flat as flat
use Rattle.signal_graph.specs.declared.graph.Graph.{Graph}
use Rattle.flow_graph.specs.PrunedGraph.{IsPrunedGraphOf}
use Rattle.front_end.specs.ProgramFlat.{IsProgramFlat}

-- the graph of the program's flat program, without the nodes from which no output is reached
pub record IsProgramGraph (p : Program) (g : Graph) : Type 0 where
  pub expanded : flat.Program
  pub flat_program : IsProgramFlat p expanded
  pub graph : IsPrunedGraphOf expanded g
