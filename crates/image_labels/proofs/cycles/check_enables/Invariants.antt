use Rattle.std.proofs.Common.{take}
use Rattle.std.specs.List.{All}
use Rattle.image_labels.specs.Labelled.{IsDrive}
use Rattle.image_labels.proofs.cycles.check_enables.Given as goal

abbrev pub invariant-loop-enable : goal.invariant-loop-enable
invariant-loop-enable l = All (IsDrive l.image l.cycle) (take l.enable-index l.enable-items)
