use Rattle.std.proofs.Common.{arith, ◌≡◌, ℕ, ◌^◌, ◌≤◌, pos, unsigned_abs, to_z, of_z, lit<, ◌∙◌}
use Rattle.std.proofs.Common.{ap}
use Rattle.std.specs.Int.{w128}
use Rattle.std.proofs.Math.Pow.{pow_mono}
use Rattle.std.proofs.Math.Nat.{mul-le-mul}
use Rattle.std.proofs.lemmas.Int.{ints, fits_signed_mul, to_z-of_z, unsigned_abs-mul}
use Rattle.fix_word.proofs.Bodies.{scaled_up, product_as}
use Rattle.fix_word.proofs.words.scale.Goals as goal

pub overflow_mul-result : goal.overflow_mul-result
overflow_mul-result c =
    let few : c.unsigned_abs-steps.result ≤ 40 = omega (arith, ints) in
    let small : 2 ^ c.unsigned_abs-steps.result ≤ 2 ^ 40 = pow_mono {j = 40} few in
    fits_signed_mul w128 (to_z w128 (of_z w128 c.args.q)) (to_z w128 (of_z w128 c.power_of_two.result)) (2 ^ 80)
    (2 ^ 40) (omega (arith, ints)) (omega (arith, ints)) (lit< tt)

pub returns-then-fmt-lt0-clause-value : goal.returns-then-fmt-lt0-clause-value
returns-then-fmt-lt0-clause-value c =
    let few : c.unsigned_abs-steps.result ≤ 40 = omega (arith, ints) in
    let small : 2 ^ c.unsigned_abs-steps.result ≤ 2 ^ 40 = pow_mono {j = 40} few in
    let steps : c.unsigned_abs-steps.result ≡ unsigned_abs c.args.fmt.now.shift = omega (arith, ints) in
    let factor : to_z w128 (of_z w128 c.power_of_two.result) ≡ pos (2 ^ c.unsigned_abs-steps.result) =
    omega (arith, ints) in
    scaled_up c.args.q c.args.fmt.now.shift _ c.args.fmt.now.mode (omega (arith, ints))
    (to_z-of_z w128 _ (overflow_mul-result c)
    ∙ product_as (to_z w128 (of_z w128 c.args.q)) (to_z w128 (of_z w128 c.power_of_two.result)) c.args.q
    (pos (2 ^ unsigned_abs c.args.fmt.now.shift))
    (omega (arith, ints)) (factor ∙ ap (λ (k : ℕ). pos (2 ^ k)) steps))

pub returns-then-fmt-lt0-clause-bound : goal.returns-then-fmt-lt0-clause-bound
returns-then-fmt-lt0-clause-bound c =
    let few : c.unsigned_abs-steps.result ≤ 40 = omega (arith, ints) in
    let small : 2 ^ c.unsigned_abs-steps.result ≤ 2 ^ 40 = pow_mono {j = 40} few in
    let number : unsigned_abs (to_z w128 (of_z w128 c.args.q)) ≤ 2 ^ 80 = omega (arith, ints) in
    let factor : unsigned_abs (to_z w128 (of_z w128 c.power_of_two.result)) ≤ 2 ^ 40 = omega (arith, ints) in
    omega (
      arith,
      ap unsigned_abs (to_z-of_z w128 _ (overflow_mul-result c)),
      unsigned_abs-mul (to_z w128 (of_z w128 c.args.q)) (to_z w128 (of_z w128 c.power_of_two.result)),
      mul-le-mul number factor,
    )
