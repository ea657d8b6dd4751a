use Rattle.std.proofs.Common.{◌<◌, ◌<ℤ◌, ℕ}
use Rattle.loop_expand.specs.Private.Turns.{value_in}
use Rattle.loop_expand.proofs.values.are_past.Given as goal

abbrev pub invariant-loop-k : goal.invariant-loop-k
invariant-loop-k l = (k : ℕ) → k < l.k → value_in l.hi k <ℤ value_in l.lo k
