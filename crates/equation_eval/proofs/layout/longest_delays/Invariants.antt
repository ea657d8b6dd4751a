use Rattle.std.proofs.Common.{◌≡◌, ℕ, ◌<◌, ◌≤◌, length}
use Rattle.std.specs.Prelude.{slice_index_or}
use Rattle.std.specs.List.{All}
use Rattle.signal_graph.specs.GraphSolves.{HasEdge}
use Rattle.equation_eval.proofs.layout.longest_delays.Given as goal

abbrev pub invariant-loop-node : goal.invariant-loop-node
invariant-loop-node l = record {
  count : length l.longest ≡ length l.graph.nodes;
  most : All (λ delay. delay < 1024) l.longest;
  reads : (v u ago : ℕ) → v < l.node-index → HasEdge l.graph v u ago → ago ≤ slice_index_or l.longest u 0;
}
