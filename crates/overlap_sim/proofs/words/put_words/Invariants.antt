use Rattle.overlap_plan.specs.IsStagePlan.{plan_of}
use Rattle.overlap_sim.specs.Private.Staged.{AreBehind}
use Rattle.overlap_sim.proofs.words.put_words.Given as goal

abbrev pub invariant-loop-c : goal.invariant-loop-c
invariant-loop-c l = AreBehind l.issuer.datapath.now (plan_of l.issuer.plan.now) l.m l.c l.fn.words l.words
