use Rattle.std.proofs.Common.{◌-◌, length}
use Rattle.flow_graph.specs.Private.Pruning.{IsSearch, HasOutputs}
use Rattle.flow_graph.proofs.pruning.follow_all.Given as goal

abbrev pub invariant-loop-next : goal.invariant-loop-next
invariant-loop-next l = record {
  search : IsSearch l.graph l.next l.search;
  outputs : HasOutputs l.graph l.search;
}

abbrev pub decreases-loop-next : goal.decreases-loop-next
decreases-loop-next l = length l.graph.nodes - l.next
