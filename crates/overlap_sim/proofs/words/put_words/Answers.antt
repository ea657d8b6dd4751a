use Rattle.overlap_plan.specs.IsStagePlan.{plan_of}
use Rattle.overlap_sim.proofs.GuardedWordSteps.{word_behind}
use Rattle.overlap_sim.proofs.words.put_words.Goals as goal

pub loop-c-preserved : goal.loop-c-preserved
loop-c-preserved c =
    word_behind c.args.issuer.now.datapath.now (plan_of c.args.issuer.now.plan.now) c.args.m c.loop-c.c
    c.in_ok-word.field-0 c.args.words.now c.loop-c.words c.push.new.self c.in_ok-push.ensures.ok
    c.in_ok-word.ensures c.loop-c.invariant
