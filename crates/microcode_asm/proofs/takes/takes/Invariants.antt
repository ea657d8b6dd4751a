use Rattle.std.proofs.Common.{◌-◌, length}
use Rattle.microcode_asm.specs.Private.Words.{AreTakesTo}
use Rattle.microcode_asm.proofs.takes.takes.Given as goal

abbrev pub invariant-loop-k : goal.invariant-loop-k
invariant-loop-k l = AreTakesTo l.issuer.plan.now l.n l.c l.k l.takes

abbrev pub decreases-loop-k : goal.decreases-loop-k
decreases-loop-k l = length l.issuer.plan.now.arcs - l.k
