use Rattle.std.proofs.Common.{arith, subst, ◌∙◌}
use Rattle.std.specs.List.{All}
use Rattle.std.proofs.lemmas.List.{take_all}
use Rattle.std.proofs.lemmas.List.Elements.{All-more}
use Rattle.image_fit.specs.Fits.{IsTakeOn}
use Rattle.micro_image.specs.declared.image.Take.{Take}
use Rattle.image_fit.proofs.words.check_takes.Goals as goal

abbrev no_take : Take
no_take = record { port = record { unit = 0; port = 0 }; bus = 0; reg = 0 }

pub loop-take-preserved : goal.loop-take-preserved
loop-take-preserved c =
    All-more (IsTakeOn c.args.path.now) c.deref-take-items.result.now c.loop-take.take-index no_take (omega arith)
    c.loop-take.invariant
    (c.is_take_on.ensures c.if-not-is_take_on.false)

pub returns : goal.returns
returns c =
    subst (All (IsTakeOn c.args.path.now)) (take_all c.loop-take.take-index c.deref-take-items.result.now (omega arith)
    ∙ c.deref-take-items.ensures) c.loop-take.invariant
