use Rattle.std.proofs.Common.{◌≡◌, map, take}
use Rattle.flow_graph.specs.Private.Pruning.{renumbered_edge}
use Rattle.flow_graph.proofs.pruning.renumbered_edges.Given as goal

abbrev pub invariant-loop-edge : goal.invariant-loop-edge
invariant-loop-edge l = l.new ≡ map (renumbered_edge l.numbers) (take l.edge-index l.edge-items)
