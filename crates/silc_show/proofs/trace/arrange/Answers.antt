use Rattle.std.proofs.Common.{arith}
use Rattle.std.proofs.lemmas.List.Sorted.{IsPermutation-trans}
use Rattle.silc_show.proofs.trace.arrange.Goals as goal

pub returns-then-not-bring : goal.returns-then-not-bring
returns-then-not-bring c = IsPermutation-trans _ _ _ c.loop-number.invariant.units c.bring.ensures

pub loop-number-preserved : goal.loop-number-preserved
loop-number-preserved c = record {
  units = IsPermutation-trans _ _ _ c.loop-number.invariant.units c.bring.ensures;
  place = omega (arith, c.loop-number.invariant.place, c.if-place-units.false);
}
