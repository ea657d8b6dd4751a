use Rattle.std.proofs.Common.{arith, sym, subst}
use Rattle.overlap_plan.specs.IsStagePlan.{plan_of}
use Rattle.overlap_sim.specs.Private.Staged.{AreTakesTo}
use Rattle.overlap_sim.proofs.StagedSteps.{one_more_take, all_takes}
use Rattle.overlap_sim.proofs.takes.takes.Goals as goal

pub loop-k-preserved : goal.loop-k-preserved
loop-k-preserved c =
    let d = c.args.issuer.now.datapath.now in
    let sp = c.args.issuer.now.plan.now in
    subst (AreTakesTo d (plan_of sp) c.args.m c.args.c c.index-k-in-loop-k.result.now) (sym c.in_ok-push.ensures.ok)
    (one_more_take d sp c.requires.issuer.ready c.args.m c.args.issuer.now.written.now c.args.c c.loop-k.k
    c.index-k-in-loop-k.result.now c.take.result c.loop-k.takes c.requires.issuer.written (omega arith)
    c.take.ensures c.index-k-in-loop-k.ensures c.loop-k.invariant)

pub returns : goal.returns
returns c =
    all_takes c.args.issuer.now.datapath.now c.args.issuer.now.plan.now c.requires.issuer.ready c.args.m c.args.c
    c.loop-k.k c.loop-k.takes (omega arith) c.loop-k.invariant
