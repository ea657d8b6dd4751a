use Rattle.std.proofs.Common.{arith}
use Rattle.std.proofs.lemmas.Int.{ints}
use Rattle.image_labels.proofs.folds.is_at_most_sum.Goals as goal

pub returns : goal.returns
returns c = (
  λ is. grind (arith, ints, is, c.from.ensures, c.from-2.ensures, c.from-3.ensures),
  λ le. grind (arith, ints, le, c.from.ensures, c.from-2.ensures, c.from-3.ensures),
)
