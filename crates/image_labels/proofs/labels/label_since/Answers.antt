use Rattle.std.proofs.Common.{◌∙◌, arith}
use Rattle.image_labels.proofs.Unwritten as unwritten
use Rattle.image_labels.proofs.labels.label_since.Goals as goal

pub returns-then-since-cycle : goal.returns-then-since-cycle
returns-then-since-cycle c =
    c.register_label.ensures
    ∙ unwritten.label_since c.args.image.now c.args.certificate.now c.args.unit c.args.port c.args.reg c.args.since
    c.args.cycle (omega (arith, c.if-since-cycle.true)) c.requires.unwritten
