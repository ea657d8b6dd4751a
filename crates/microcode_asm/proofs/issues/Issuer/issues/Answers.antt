use Rattle.std.proofs.Common.{arith, sym, subst}
use Rattle.microcode_asm.specs.Private.Words.{AreIssuesTo}
use Rattle.microcode_asm.proofs.PlanFacts.{one_node}
use Rattle.microcode_asm.proofs.SampleSteps.{in_nodes, one_more_issue, all_issues}
use Rattle.microcode_asm.proofs.issues.Issuer.issues.Goals as goal

pub issue-requires-clause-node : goal.issue-requires-clause-node
issue-requires-clause-node c =
    in_nodes c.args.self.now.datapath.now c.args.self.now.plan.now c.requires.issuer.ready
    c.args.self.now.order.now c.requires.issuer.order c.loop-i.i c.index-in-loop-i.result.now (omega arith)
    c.index-in-loop-i.ensures

pub loop-i-preserved : goal.loop-i-preserved
loop-i-preserved c =
    let d = c.args.self.now.datapath.now in
    let p = c.args.self.now.plan.now in
    let order = c.args.self.now.order.now in
    subst (AreIssuesTo d p order c.args.n c.args.c c.index-i-in-loop-i.result.now) (sym c.in_ok-push.ensures.ok)
    (one_more_issue d p c.requires.issuer.ready order c.requires.issuer.order c.args.n
    (one_node d p c.requires.issuer.ready) c.args.self.now.issued.now
    c.args.c c.loop-i.i c.index-in-loop-i.result.now c.index-i-in-loop-i.result.now c.in_ok-issue.field-0
    c.loop-i.issues c.requires.issuer.issued (omega arith) c.index-in-loop-i.ensures c.in_ok-issue.ensures
    c.index-i-in-loop-i.ensures c.loop-i.invariant)

pub returns : goal.returns
returns c =
    all_issues c.args.self.now.datapath.now c.args.self.now.plan.now c.requires.issuer.ready
    c.args.self.now.order.now c.requires.issuer.order c.args.n c.args.c c.loop-i.i c.loop-i.issues (omega arith)
    c.loop-i.invariant
