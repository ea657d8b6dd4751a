use Rattle.silc.specs.Private.Demonstrating.{HasTotals, IsSumOf}
use Rattle.silc.proofs.demo.run_samples.Given as goal

abbrev pub invariant-loop-n : goal.invariant-loop-n
invariant-loop-n l = record {
  state : HasTotals l.fn.machine.code l.n l.machine l.totals;
  bound : IsSumOf l.n l.totals.sum;
}
