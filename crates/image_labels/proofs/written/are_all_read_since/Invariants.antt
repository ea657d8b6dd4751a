use Rattle.std.proofs.Common.{IsTrue}
use Rattle.image_labels.specs.Private.Written.{AreUnwritten, AreAllReadSince}
use Rattle.image_labels.proofs.written.are_all_read_since.Given as goal

abbrev pub invariant-loop-cycle : goal.invariant-loop-cycle
invariant-loop-cycle l =
    (IsTrue l.right → AreAllReadSince l.image l.certificate l.cycle) × AreUnwritten l.image l.last l.cycle
