use Rattle.std.proofs.Common.{ℕ, ◌<◌}
use Rattle.image_labels.specs.Private.Written.{IsReadSince}
use Rattle.image_labels.proofs.written.are_read_since.Given as goal

abbrev pub invariant-loop-port : goal.invariant-loop-port
invariant-loop-port l = (p : ℕ) → p < l.port → IsReadSince l.image l.certificate l.cycle l.issue p
