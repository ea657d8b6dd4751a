use Rattle.std.proofs.Common.{arith, sym, subst}
use Rattle.microcode_asm.specs.Private.Words.{AreTakesTo}
use Rattle.microcode_asm.proofs.SampleSteps.{one_more_take, all_takes}
use Rattle.microcode_asm.proofs.takes.takes.Goals as goal

pub loop-k-preserved : goal.loop-k-preserved
loop-k-preserved c =
    subst (AreTakesTo c.args.issuer.now.plan.now c.args.n c.args.c c.index-k-in-loop-k.result.now)
    (sym c.in_ok-push.ensures.ok)
    (one_more_take c.args.issuer.now.datapath.now c.args.issuer.now.plan.now c.requires.issuer.ready c.args.n
    c.args.issuer.now.written.now c.args.c c.loop-k.k c.index-k-in-loop-k.result.now c.take.result c.loop-k.takes
    c.requires.issuer.written (omega arith) c.take.ensures c.index-k-in-loop-k.ensures c.loop-k.invariant)

pub returns : goal.returns
returns c =
    all_takes c.args.issuer.now.datapath.now c.args.issuer.now.plan.now c.requires.issuer.ready c.args.n c.args.c
    c.loop-k.k c.loop-k.takes (omega arith) c.loop-k.invariant
