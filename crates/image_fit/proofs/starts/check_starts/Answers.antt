use Rattle.std.proofs.Common.{arith, subst}
use Rattle.std.specs.List.{All}
use Rattle.std.proofs.lemmas.List.{take_all}
use Rattle.std.proofs.lemmas.List.Elements.{All-more}
use Rattle.image_fit.specs.Fits.{StartsWithin}
use Rattle.image_fit.proofs.starts.check_starts.Goals as goal

pub loop-number-preserved : goal.loop-number-preserved
loop-number-preserved c =
    All-more (StartsWithin c.args.bits) c.args.units.now c.loop-number.number c.index-units-number.result (omega arith)
    c.loop-number.invariant
    (subst (StartsWithin c.args.bits) c.index-units-number.is (c.starts_within.ensures c.if-not-starts_within.false))

pub returns : goal.returns
returns c =
    subst (All (StartsWithin c.args.bits)) (take_all c.loop-number.number c.args.units.now (omega arith))
    c.loop-number.invariant
