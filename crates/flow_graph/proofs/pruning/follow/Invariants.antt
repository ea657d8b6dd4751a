use Rattle.std.proofs.Common.{◌≡◌, length, drop}
use Rattle.flow_graph.specs.Private.Pruning.{all_reached}
use Rattle.flow_graph.proofs.pruning.follow.Given as goal

abbrev pub invariant-loop-edge : goal.invariant-loop-edge
invariant-loop-edge l = record {
  count : length l.search.marks ≡ length l.fn.search.marks;
  rest : all_reached l.search (drop l.edge-index l.edge-items) ≡ all_reached l.fn.search l.edge-items;
}
