use Rattle.std.proofs.Common.{arith, ◌^◌, ◌≤◌, ◌*◌, pos, ◌*ℤ◌, unsigned_abs, to_z, of_z, lit<, ◌∙◌, ap}
use Rattle.std.specs.Int.{w128}
use Rattle.std.proofs.Math.Pow.{pow_mono}
use Rattle.std.proofs.Math.Nat.{mul-le-mul}
use Rattle.std.proofs.lemmas.Int.{ints, fits_signed_mul, to_z-of_z}
use Rattle.fix_word.proofs.Bodies.{product_as}
use Rattle.fix_word.proofs.literals.doubled.Goals as goal

pub overflow_mul-result-2 : goal.overflow_mul-result-2
overflow_mul-result-2 c =
    let small : 2 ^ c.args.f ≤ 2 ^ 40 = pow_mono {j = 40} c.requires.bits in
    fits_signed_mul w128 (to_z w128 (of_z w128 (pos 2 *ℤ to_z w128 c.args.digits)))
    (to_z w128 (of_z w128 c.power_of_two.result)) (2 ^ 61) (2 ^ 40) (omega (arith, ints)) (omega (arith, ints))
    (lit< tt)

pub returns-clause-value : goal.returns-clause-value
returns-clause-value c =
    let small : 2 ^ c.args.f ≤ 2 ^ 40 = pow_mono {j = 40} c.requires.bits in
    to_z-of_z w128 _ (overflow_mul-result-2 c)
    ∙ product_as (to_z w128 (of_z w128 (pos 2 *ℤ to_z w128 c.args.digits)))
    (to_z w128 (of_z w128 c.power_of_two.result)) (pos (2 * c.args.digits)) (pos (2 ^ c.args.f))
    (omega (arith, ints)) (omega (arith, ints))

pub returns-clause-most : goal.returns-clause-most
returns-clause-most c =
    let small : 2 ^ c.args.f ≤ 2 ^ 40 = pow_mono {j = 40} c.requires.bits in
    let few : 2 * c.args.digits ≤ 2 ^ 61 = omega arith in
    omega (arith, ap unsigned_abs (returns-clause-value c), mul-le-mul few small)
