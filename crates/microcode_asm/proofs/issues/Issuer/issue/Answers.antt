use Rattle.std.proofs.Common.{◌≡◌, rules, sym, subst, to_z, of_z, w64, ℤ}
use Rattle.plan_soundness.specs.ImageOf.{IsIssueOf}
use Rattle.microcode_asm.proofs.IssueSteps.{issue_is}
use Rattle.microcode_asm.proofs.issues.Issuer.issue.Goals as goal

pub returns : goal.returns
returns c =
    let node = c.index-node.result.now in
    let same : to_z w64 (of_z w64 node.arg) ≡ node.arg = search rules in
    subst
    (λ (arg : ℤ). IsIssueOf c.args.self.now.datapath.now c.args.self.now.plan.now c.args.v c.args.n (record {
      unit = c.index-unit.result.now;
      op = node.op;
      fmt = node.fmt;
      arg = arg;
      regs = c.in_ok-regs.regs;
    }))
    (sym same)
    (issue_is c.args.self.now.datapath.now c.args.self.now.plan.now c.requires.issuer.ready c.args.v c.args.n
    c.index-unit.result.now node c.in_ok-regs.regs c.requires.node c.index-node.ensures c.index-unit.ensures
    c.in_ok-regs.ensures.count c.in_ok-regs.ensures.each)
