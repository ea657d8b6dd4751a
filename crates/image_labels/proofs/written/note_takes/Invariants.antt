use Rattle.std.proofs.Common.{◌≡◌, length, take}
use Rattle.image_labels.specs.Private.Written.{AreUnwritten, AreNoted}
use Rattle.image_labels.proofs.written.note_takes.Given as goal

abbrev pub invariant-loop-take : goal.invariant-loop-take
invariant-loop-take l =
    (length l.last ≡ length l.fn.last)
    × (AreUnwritten l.image l.fn.last l.cycle → AreNoted l.image l.last l.cycle (take l.take-index l.take-items))
