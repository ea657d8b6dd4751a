-- Each is computed.
use Rattle.std.proofs.Common.{refl}
use Rattle.fix_word.specs.Values.{wrap_of}
use Rattle.worked_values.proofs.operations.Goals as goal

pub returns-clause-sums : goal.returns-clause-sums
unfolding wrap_of
returns-clause-sums _ = (refl, refl, refl, refl, refl)

pub returns-clause-comparisons : goal.returns-clause-comparisons
returns-clause-comparisons _ = (
  (refl, refl, refl),
  (refl, refl, refl),
  (refl, refl, refl),
  (refl, refl, refl),
)

pub returns-clause-truths : goal.returns-clause-truths
returns-clause-truths _ = (
  (refl, refl, refl),
  (refl, refl, refl),
  refl,
  refl,
  refl,
  refl,
  refl,
  refl,
  refl,
)
