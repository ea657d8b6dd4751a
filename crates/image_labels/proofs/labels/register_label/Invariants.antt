use Rattle.std.proofs.Common.{◌≡◌, ◌-◌}
use Rattle.image_labels.specs.Labels.{register_label}
use Rattle.image_labels.proofs.labels.register_label.Given as goal

abbrev pub invariant-loop-back : goal.invariant-loop-back
invariant-loop-back l =
    register_label l.image l.certificate l.unit l.port l.reg l.cycle
    ≡ register_label l.image l.certificate l.unit l.port l.reg (l.cycle - l.back)
