use Rattle.std.proofs.Common.{take}
use Rattle.std.specs.List.{All}
use Rattle.image_labels.specs.Labelled.{IsFit}
use Rattle.image_labels.proofs.cycles.check_issues.Given as goal

abbrev pub invariant-loop-issue : goal.invariant-loop-issue
invariant-loop-issue l = All (IsFit l.graph l.image l.certificate l.cycle) (take l.issue-index l.issue-items)
