use Rattle.std.proofs.Common.{◌≡◌, ℕ, ◌<◌, ◌≤◌}
use Rattle.reg_alloc.specs.Private.Spans.{joined}
use Rattle.reg_alloc.specs.Private.Occupancies.{span_at}
use Rattle.reg_alloc.proofs.circle.Occupancy.join.Given as goal

abbrev pub invariant-loop-sample : goal.invariant-loop-sample
invariant-loop-sample l = record {
  done : (n : ℕ) → n < l.sample → span_at l.self n ≡ joined (span_at l.fn.self n) (span_at l.other n);
  rest : (n : ℕ) → l.sample ≤ n → span_at l.self n ≡ span_at l.fn.self n;
}
