use Rattle.std.proofs.Common.{arith, sym, subst}
use Rattle.microcode_asm.proofs.SampleSteps.{in_nodes}
use Rattle.overlap_plan.specs.IsStagePlan.{plan_of}
use Rattle.overlap_sim.specs.Private.Staged.{AreIssuesTo}
use Rattle.overlap_sim.proofs.StagedSteps.{one_more_issue, all_issues}
use Rattle.overlap_sim.proofs.issues.Issuer.issues.Goals as goal

pub issue-requires-clause-node : goal.issue-requires-clause-node
issue-requires-clause-node c =
    in_nodes c.args.self.now.datapath.now (plan_of c.args.self.now.plan.now) c.requires.issuer.ready.ready
    c.args.self.now.order.now c.requires.issuer.order c.loop-i.i c.index.result.now (omega arith)
    c.index.ensures

pub loop-i-preserved : goal.loop-i-preserved
loop-i-preserved c =
    let d = c.args.self.now.datapath.now in
    let sp = c.args.self.now.plan.now in
    let order = c.args.self.now.order.now in
    subst (AreIssuesTo d (plan_of sp) order c.args.m c.args.c c.index-i-in-loop-i.result.now)
    (sym c.in_ok-push.ensures.ok)
    (one_more_issue d sp c.requires.issuer.ready order c.requires.issuer.order c.args.m c.args.self.now.issued.now
    c.args.c c.loop-i.i c.index.result.now c.index-i-in-loop-i.result.now c.in_ok-issue.field-0
    c.loop-i.issues c.requires.issuer.issued (omega arith) c.index.ensures c.in_ok-issue.ensures
    c.index-i-in-loop-i.ensures c.loop-i.invariant)

pub returns : goal.returns
returns c =
    all_issues c.args.self.now.datapath.now c.args.self.now.plan.now c.requires.issuer.ready
    c.args.self.now.order.now c.requires.issuer.order c.args.m c.args.c c.loop-i.i c.loop-i.issues (omega arith)
    c.loop-i.invariant
