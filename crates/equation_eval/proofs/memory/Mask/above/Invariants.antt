use Rattle.std.proofs.Common.{◌-◌}
use Rattle.equation_eval.specs.Private.Masks.{IsMask}
use Rattle.equation_eval.proofs.memory.Mask.above.Given as goal

abbrev pub invariant-loop-bits : goal.invariant-loop-bits
invariant-loop-bits l = IsMask l.bits

abbrev pub decreases-loop-bits : goal.decreases-loop-bits
decreases-loop-bits l = l.delay - l.bits
