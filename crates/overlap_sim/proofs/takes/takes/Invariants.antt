use Rattle.std.proofs.Common.{◌-◌, length}
use Rattle.overlap_plan.specs.IsStagePlan.{plan_of}
use Rattle.overlap_sim.specs.Private.Staged.{AreTakesTo}
use Rattle.overlap_sim.proofs.takes.takes.Given as goal

abbrev pub invariant-loop-k : goal.invariant-loop-k
invariant-loop-k l = AreTakesTo l.issuer.datapath.now (plan_of l.issuer.plan.now) l.m l.c l.k l.takes

abbrev pub decreases-loop-k : goal.decreases-loop-k
decreases-loop-k l = length l.issuer.plan.now.arcs - l.k
