use Rattle.std.proofs.Common.{◌≡◌, ◌-◌}
use Rattle.image_labels.specs.Labels.{cell_label}
use Rattle.image_labels.proofs.labels.cell_label.Given as goal

abbrev pub invariant-loop-back : goal.invariant-loop-back
invariant-loop-back l =
    cell_label l.image l.certificate l.unit l.cell l.cycle
    ≡ cell_label l.image l.certificate l.unit l.cell (l.cycle - l.back)
