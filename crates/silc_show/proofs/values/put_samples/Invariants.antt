use Rattle.std.proofs.Common.{◌≡◌, length}
use Rattle.signal_graph.specs.Keeps.{IsStreamOf}
use Rattle.silc_show.proofs.values.put_samples.Given as goal

abbrev pub invariant-loop-row : goal.invariant-loop-row
invariant-loop-row l = record {
  rows : IsStreamOf l.evaluator.graph.inputs l.rows;
  put : length l.put ≡ l.evaluator.graph.outs;
}
