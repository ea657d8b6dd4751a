use Rattle.std.proofs.Common.{◌∙◌, arith}
use Rattle.image_labels.proofs.KeptCells as kept
use Rattle.image_labels.proofs.settled.fresh_label.Goals as goal

pub returns-else-fresh-cycle : goal.returns-else-fresh-cycle
returns-else-fresh-cycle c =
    c.cell_label-else-fresh-cycle.ensures
    ∙ kept.fresh_label c.args.image.now c.args.certificate.now c.args.unit c.args.cell c.requires.quiet c.args.cycle
    (omega (arith, c.if-fresh-cycle.false, c.fresh_in-fresh.ensures)) c.requires.cycle
