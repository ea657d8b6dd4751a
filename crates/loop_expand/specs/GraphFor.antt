-- Graphs that stand for a program.
use Rattle.signal_graph.specs.GraphRules.{IsGraph}
use Rattle.signal_graph.specs.GraphSolves.{IsGraphLoopless}
use Rattle.signal_graph.specs.declared.graph.Graph.{Graph}
use Rattle.silage_syntax.specs.Tree.{Program}
use Rattle.loop_expand.specs.KeepsProgram.{KeepsProgramSolutions}

-- the graph can be evaluated and planned, and keeps the solutions of the program
pub record IsGraphFor (p : Program) (g : Graph) : Type 0 where
  pub sound : IsGraph g
  pub loopless : IsGraphLoopless g
  pub keeps : KeepsProgramSolutions p g
