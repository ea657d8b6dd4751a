use Rattle.std.proofs.Common.{◌≡◌, ℕ, ◌<◌, true}
use Rattle.fix_word.specs.declared.operation.Op.TheVariants as op
use Rattle.signal_graph.specs.GraphSolves.{node_of}
use Rattle.flow_graph.specs.Private.Pruning.{is_marked, IsSearch}
use Rattle.flow_graph.proofs.pruning.reach_outputs.Given as goal

abbrev pub invariant-loop-v : goal.invariant-loop-v
invariant-loop-v l = record {
  search : IsSearch l.graph 0 l.search;
  outputs : (u : ℕ) → u < l.v → (node_of l.graph u).op ≡ op.Output → is_marked l.search.marks u ≡ true;
}
