use Rattle.std.proofs.Common.{◌≡◌, ◌∙◌, rules, to_z, of_z, w64}
use Rattle.overlap_sim.proofs.StagedSteps.{issue_is}
use Rattle.overlap_sim.proofs.issues.Issuer.issue.Goals as goal

pub returns : goal.returns
returns c =
    let same : to_z w64 (of_z w64 c.argument-arg.result) ≡ c.argument-arg.result = search rules in
    issue_is c.args.self.now.datapath.now c.args.self.now.plan.now c.requires.issuer.ready c.args.v c.args.m
    (to_z w64 (of_z w64 c.argument-arg.result)) c.bound_of-bound.result c.index-node.result.now c.in_ok-regs.regs
    c.bound_of-bound.ensures.node c.bound_of-bound.ensures.bound c.index-node.ensures
    (same ∙ c.argument-arg.ensures) c.in_ok-regs.ensures.count c.in_ok-regs.ensures.each
