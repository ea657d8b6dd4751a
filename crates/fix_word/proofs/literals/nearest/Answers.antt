use Rattle.std.proofs.Common.{arith, ◌≡◌, ◌^◌, ◌≤◌, ◌*◌, pos, ◌+ℤ◌, ◌*ℤ◌, unsigned_abs, to_z, of_z, ◌∙◌}
use Rattle.std.specs.Int.{w128}
use Rattle.std.proofs.lemmas.Int.{ints}
use Rattle.fix_word.specs.Words.{signed}
use Rattle.fix_word.proofs.Nearest.{nearest_as, signed_true, signed_false}
use Rattle.fix_word.proofs.literals.nearest.Goals as goal
use Rattle.fix_word.proofs.literals.nearest.Goals.{then-neg, else-neg}

pub returns : goal.returns
returns c =
    let same : to_z w128 c.if-neg.exact-bits ≡ signed c.args.neg (2 * c.args.digits * 2 ^ c.args.f) =
    elim c.if-neg.branch [
      | then-neg w ↦ (omega (arith, ints)) ∙ signed_true c.args.neg (2 * c.args.digits * 2 ^ c.args.f) w.if-neg.true
      | else-neg w ↦ (omega (arith, ints)) ∙ signed_false c.args.neg (2 * c.args.digits * 2 ^ c.args.f) w.if-neg.false
    ] in
    let bound : unsigned_abs (to_z w128 c.if-neg.exact-bits) ≤ 2 ^ 101 =
    elim c.if-neg.branch [ then-neg w ↦ omega (arith, ints) | else-neg w ↦ omega (arith, ints) ] in
    nearest_as c.args.neg c.args.digits c.args.places c.args.f
    (to_z w128 (of_z w128 (to_z w128 c.if-neg.exact-bits +ℤ to_z w128 (of_z w128 c.power_of_ten-unit.result))))
    (to_z w128 (of_z w128 (pos 2 *ℤ to_z w128 (of_z w128 c.power_of_ten-unit.result))))
    _ _ (omega (arith, ints)) (omega (arith, ints)) c.div_euclid.ensures (omega (arith, ints))
