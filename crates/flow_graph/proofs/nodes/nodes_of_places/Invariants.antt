use Rattle.signal_graph.specs.Flat.{view}
use Rattle.flow_graph.specs.Private.NodesBy.{AreMadeUpTo}
use Rattle.flow_graph.proofs.nodes.nodes_of_places.Given as goal

abbrev pub invariant-loop-index : goal.invariant-loop-index
invariant-loop-index l = AreMadeUpTo (view l.flat) l.index l.nodes
