use Rattle.std.proofs.Common.{◌-◌, length}
use Rattle.overlap_plan.specs.IsStagePlan.{plan_of}
use Rattle.overlap_sim.specs.Private.Staged.{AreEnablesTo}
use Rattle.overlap_sim.proofs.enables.enables.Given as goal

abbrev pub invariant-loop-i : goal.invariant-loop-i
invariant-loop-i l =
    AreEnablesTo l.issuer.datapath.now (plan_of l.issuer.plan.now) l.issuer.order.now l.c l.i l.enables

abbrev pub decreases-loop-i : goal.decreases-loop-i
decreases-loop-i l = length l.issuer.order.now - l.i
