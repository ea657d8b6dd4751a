use Rattle.std.proofs.Common.{take}
use Rattle.std.specs.List.{All}
use Rattle.image_labels.specs.Private.Written.{AreReadSince}
use Rattle.image_labels.proofs.written.are_read_in.Given as goal

abbrev pub invariant-loop-issue : goal.invariant-loop-issue
invariant-loop-issue l = All (AreReadSince l.image l.certificate l.cycle) (take l.issue-index l.issue-items)
