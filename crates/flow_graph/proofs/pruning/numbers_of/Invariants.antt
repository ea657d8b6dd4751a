use Rattle.std.proofs.Common.{◌≡◌, ◌≤◌, ◌++◌, drop}
use Rattle.flow_graph.specs.Private.Pruning.{numbers_from}
use Rattle.flow_graph.proofs.pruning.numbers_of.Given as goal

abbrev pub invariant-loop-kept : goal.invariant-loop-kept
invariant-loop-kept l = record {
  numbers : l.numbers ++ numbers_from l.next (drop l.kept-index l.kept-items) ≡ numbers_from 0 l.kept-items;
  few : l.next ≤ l.kept-index;
}
