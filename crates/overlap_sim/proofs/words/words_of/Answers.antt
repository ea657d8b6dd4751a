use Rattle.std.proofs.Common.{◌≡◌, ℕ, arith, subst}
use Rattle.overlap_plan.specs.IsStagePlan.{plan_of}
use Rattle.overlap_sim.specs.Private.Staged.{AreWords}
use Rattle.overlap_sim.proofs.GuardedWordSteps.{words_more}
use Rattle.overlap_sim.proofs.words.words_of.Goals as goal

pub loop-m-preserved : goal.loop-m-preserved
loop-m-preserved c =
    words_more c.args.issuer.now.datapath.now (plan_of c.args.issuer.now.plan.now) c.loop-m.m c.loop-m.words
    c.put_words.new.words c.in_ok-put_words.ensures c.loop-m.invariant

pub returns : goal.returns
returns c =
    let all : c.loop-m.m ≡ c.args.issuer.now.plan.now.unroll = omega (arith, c.from-unroll.ensures) in
    subst (λ (n : ℕ). AreWords c.args.issuer.now.datapath.now (plan_of c.args.issuer.now.plan.now) n c.loop-m.words)
    all c.loop-m.invariant
