use Rattle.std.proofs.Common.{inl, subst, sym}
use Rattle.image_labels.specs.Labelled.{IsLabelOf}
use Rattle.image_labels.proofs.fits.is_label_of.Goals as goal

pub returns-then-is_done : goal.returns-then-is_done
returns-then-is_done c = (
  λ is. subst
      (λ label.
      IsLabelOf c.args.graph.now c.args.image.now c.args.certificate.now c.args.cycle c.args.issue.now label)
      (sym c.in-Signal.is) (inl (c.is_done.ensures.0 is)),
  λ of. c.if-is_done.true,
)
