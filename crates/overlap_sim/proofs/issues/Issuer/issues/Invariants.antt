use Rattle.std.proofs.Common.{◌-◌, length}
use Rattle.overlap_plan.specs.IsStagePlan.{plan_of}
use Rattle.overlap_sim.specs.Private.Staged.{AreIssuesTo}
use Rattle.overlap_sim.proofs.issues.Issuer.issues.Given as goal

abbrev pub invariant-loop-i : goal.invariant-loop-i
invariant-loop-i l =
    AreIssuesTo l.self.datapath.now (plan_of l.self.plan.now) l.self.order.now l.m l.c l.i l.issues

abbrev pub decreases-loop-i : goal.decreases-loop-i
decreases-loop-i l = length l.self.order.now - l.i
