use Rattle.std.proofs.Common.{take}
use Rattle.std.specs.List.{All}
use Rattle.image_fit.specs.Fits.{IsIssueWithin}
use Rattle.image_fit.proofs.words.check_issues.Given as goal

abbrev pub invariant-loop-issue : goal.invariant-loop-issue
invariant-loop-issue l = All (IsIssueWithin l.bits) (take l.issue-index l.issue-items)
