use Rattle.std.proofs.Common.{take}
use Rattle.std.specs.List.{All}
use Rattle.image_labels.specs.Labelled.{IsTaken}
use Rattle.image_labels.proofs.cycles.check_takes.Given as goal

abbrev pub invariant-loop-take : goal.invariant-loop-take
invariant-loop-take l = All (IsTaken l.image l.cycle) (take l.take-index l.take-items)
