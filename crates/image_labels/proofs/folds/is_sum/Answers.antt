use Rattle.std.proofs.Common.{arith}
use Rattle.std.proofs.lemmas.Int.{ints}
use Rattle.image_labels.proofs.folds.is_sum.Goals as goal

pub returns-then-is_at_most_sum : goal.returns-then-is_at_most_sum
returns-then-is_at_most_sum c =
    let most = c.is_at_most_sum.ensures.0 c.if-is_at_most_sum.true in (
      λ is. let least = c.is_at_least_sum.ensures.0 is in omega (arith, ints, most, least),
      λ same. c.is_at_least_sum.ensures.1 (omega (arith, ints, same)),
    )
