use Rattle.overlap_plan.specs.IsStagePlan.{plan_of}
use Rattle.overlap_sim.specs.Private.Staged.{AreWords}
use Rattle.overlap_sim.proofs.words.words_of.Given as goal

abbrev pub invariant-loop-m : goal.invariant-loop-m
invariant-loop-m l = AreWords l.issuer.datapath.now (plan_of l.issuer.plan.now) l.m l.words
