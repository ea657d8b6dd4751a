use Rattle.std.proofs.Common.{◌≡◌, ◌≤◌, ◌*◌}
use Rattle.plan_soundness.proofs.Origins.{first_of}
use Rattle.delay_memory.specs.Private.Numbers.{AreNumbers}
use Rattle.delay_memory.proofs.numbers.numbers_of.Given as goal

abbrev pub invariant-loop-v : goal.invariant-loop-v
invariant-loop-v l = record {
  numbers : AreNumbers l.delays l.v l.numbers;
  next : l.next ≡ first_of l.delays l.v;
  small : l.next ≤ 2051 * l.v;
}
