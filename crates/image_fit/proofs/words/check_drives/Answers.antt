use Rattle.std.proofs.Common.{arith, subst, ◌∙◌}
use Rattle.std.specs.List.{All}
use Rattle.std.proofs.lemmas.List.{take_all}
use Rattle.std.proofs.lemmas.List.Elements.{All-more}
use Rattle.image_fit.specs.Fits.{IsDriveOn}
use Rattle.micro_image.specs.declared.image.Enable.{Enable}
use Rattle.image_fit.proofs.words.check_drives.Goals as goal

abbrev no_enable : Enable
no_enable = record { unit = 0; bus = 0 }

pub loop-enable-preserved : goal.loop-enable-preserved
loop-enable-preserved c =
    All-more (IsDriveOn c.args.path.now) c.deref-enable-items.result.now c.loop-enable.enable-index no_enable
    (omega arith) c.loop-enable.invariant
    (c.is_drive_on.ensures c.if-not-is_drive_on.false)

pub returns : goal.returns
returns c =
    subst (All (IsDriveOn c.args.path.now))
    (take_all c.loop-enable.enable-index c.deref-enable-items.result.now (omega arith)
    ∙ c.deref-enable-items.ensures) c.loop-enable.invariant
