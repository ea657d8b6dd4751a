use Rattle.std.proofs.Common.{◌∙◌, ap, arith}
use Rattle.image_labels.specs.Labels.{cell_label}
use Rattle.image_labels.proofs.KeptCells as kept
use Rattle.image_labels.proofs.settled.settled_label.Goals as goal

pub returns-then-settled-cycle : goal.returns-then-settled-cycle
returns-then-settled-cycle c =
    c.cell_label.ensures
    ∙ ap (cell_label c.args.image.now c.args.certificate.now c.args.unit c.args.cell) c.settled_in-settled.ensures
    ∙ kept.settled_label c.args.image.now c.args.certificate.now c.args.unit c.args.cell c.requires.quiet c.args.cycle
    (omega (arith, c.if-settled-cycle.true, c.settled_in-settled.ensures)) c.requires.cycle
