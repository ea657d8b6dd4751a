use Rattle.std.proofs.Common.{arith, ◌^◌, ◌-◌, ◌≤◌}
use Rattle.std.proofs.Math.Pow.{pow_mono}
use Rattle.std.proofs.lemmas.Int.{ints}
use Rattle.fix_word.proofs.Nearest.{literal_as, outside_as}
use Rattle.fix_word.proofs.literals.literal.Goals as goal
use Rattle.fix_word.proofs.literals.literal.Goals.{else-bound-raw-via-then-bound-raw+else-raw-bound}
use Rattle.fix_word.proofs.literals.literal.Goals.{else-bound-raw-via-else-bound-raw}

pub returns-then-raw-bound-clause-word : goal.returns-then-raw-bound-clause-word
returns-then-raw-bound-clause-word c =
    let small : 2 ^ (c.args.to.w - 1) ≤ 2 ^ 39 = pow_mono {j = 39} (omega (arith, c.requires.shape.width.widest)) in
    literal_as c.args.neg c.args.digits c.args.places c.args.to _ _ c.nearest-raw.ensures (omega (arith, ints))
    (record { low = omega (arith, ints); high = omega (arith, ints) })

pub returns-else-bound-raw-clause-range : goal.returns-else-bound-raw-clause-range
returns-else-bound-raw-clause-range c =
    let small : 2 ^ (c.args.to.w - 1) ≤ 2 ^ 39 = pow_mono {j = 39} (omega (arith, c.requires.shape.width.widest)) in
    outside_as c.args.neg c.args.digits c.args.places c.args.to c.nearest-raw.result c.nearest-raw.ensures
    (λ word. elim c.else-bound-raw.branch [
      | else-bound-raw-via-then-bound-raw+else-raw-bound w ↦ omega (arith, ints, word.low, word.high)
      | else-bound-raw-via-else-bound-raw w ↦ omega (arith, ints, word.low, word.high)
    ])
