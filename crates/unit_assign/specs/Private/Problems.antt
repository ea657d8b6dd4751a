-- A graph that is to be bound, with its datapath and the routes in it.
use Rattle.std.specs.Prelude.{List}
use Rattle.signal_graph.specs.declared.graph.Node.{Node}
use Rattle.unit_assign.specs.Private.Wiring.{IsProblem}
use Rattle.unit_assign.specs.declared.problem.Problem.{Problem}

abbrev pub nodes_of : Problem → List Node
nodes_of problem = problem.lowered.now.nodes

-- it can be bound
abbrev pub IsSound : Problem → Type 0
IsSound problem = IsProblem problem.datapath.now problem.lowered.now problem.wiring.now
