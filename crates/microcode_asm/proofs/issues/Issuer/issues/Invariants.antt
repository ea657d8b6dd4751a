use Rattle.std.proofs.Common.{◌-◌, length}
use Rattle.microcode_asm.specs.Private.Words.{AreIssuesTo}
use Rattle.microcode_asm.proofs.issues.Issuer.issues.Given as goal

abbrev pub invariant-loop-i : goal.invariant-loop-i
invariant-loop-i l = AreIssuesTo l.self.datapath.now l.self.plan.now l.self.order.now l.n l.c l.i l.issues

abbrev pub decreases-loop-i : goal.decreases-loop-i
decreases-loop-i l = length l.self.order.now - l.i
