use Rattle.std.proofs.Common.{arith, subst, ◌∙◌}
use Rattle.std.specs.List.{All}
use Rattle.std.proofs.lemmas.List.{take_all}
use Rattle.std.proofs.lemmas.List.Elements.{All-more}
use Rattle.image_fit.specs.Fits.{IsIssueWithin}
use Rattle.image_fit.proofs.words.check_issues.Goals as goal

pub loop-issue-preserved : goal.loop-issue-preserved
loop-issue-preserved c =
    All-more (IsIssueWithin c.args.bits) c.deref-issue-items.result.now c.loop-issue.issue-index c.issue-item.result
    (omega arith) c.loop-issue.invariant
    (subst (IsIssueWithin c.args.bits) c.issue-item.is (c.is_issue_within.ensures c.if-not-is_issue_within.false))

pub returns : goal.returns
returns c =
    subst (All (IsIssueWithin c.args.bits))
    (take_all c.loop-issue.issue-index c.deref-issue-items.result.now (omega arith)
    ∙ c.deref-issue-items.ensures) c.loop-issue.invariant
