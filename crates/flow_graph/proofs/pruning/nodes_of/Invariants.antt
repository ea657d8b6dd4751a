use Rattle.std.proofs.Common.{◌≡◌, ◌++◌, map, drop}
use Rattle.signal_graph.specs.GraphSolves.{node_of}
use Rattle.flow_graph.specs.Private.Pruning.{renumbered, kept_from, kept_nodes}
use Rattle.flow_graph.proofs.pruning.nodes_of.Given as goal

abbrev pub invariant-loop-v : goal.invariant-loop-v
invariant-loop-v l =
    l.nodes ++ map (renumbered l.numbers) (map (node_of l.graph) (kept_from l.v (drop l.v l.marks)))
    ≡ kept_nodes l.graph l.numbers l.marks
