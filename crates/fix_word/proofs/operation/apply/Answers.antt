use Rattle.std.proofs.Common.{arith, ◌≡◌, ◌∙◌, ◌^◌, ◌*ℤ◌, to_z, of_z, lit<, FitsSigned}
use Rattle.std.specs.Int.{w128, w64}
use Rattle.std.proofs.lemmas.Int.{ints, fits_signed_mul, to_z-of_z}
use Rattle.fix_word.proofs.Bodies.{form_same, apply_same, product_as}
use Rattle.fix_word.proofs.Operations.{apply_value, apply_small}
use Rattle.fix_word.proofs.operation.apply.Goals as goal

pub returns-in-Add-clause-meaning : goal.returns-in-Add-clause-meaning
returns-in-Add-clause-meaning c =
    apply_same _ _ c.args.fmt.now c.args.a c.args.b c.args.c _ c.in-Add.is
    (form_same _ _ _ _ _ (omega (arith, ints)) (omega (arith, ints)) c.form.ensures.meaning)

pub returns-in-Add-clause-value : goal.returns-in-Add-clause-value
returns-in-Add-clause-value c =
    apply_value c.args.op c.args.fmt.now c.args.a c.args.b c.args.c _ c.requires.ready (returns-in-Add-clause-meaning c)

pub returns-in-Add-clause-bound : goal.returns-in-Add-clause-bound
returns-in-Add-clause-bound c =
    apply_small c.args.op c.args.fmt.now c.args.a c.args.b c.args.c _ c.requires.ready c.requires.b c.requires.c
    (returns-in-Add-clause-meaning c)

pub returns-in-Sub-clause-meaning : goal.returns-in-Sub-clause-meaning
returns-in-Sub-clause-meaning c =
    apply_same _ _ c.args.fmt.now c.args.a c.args.b c.args.c _ c.in-Sub.is
    (form_same _ _ _ _ _ (omega (arith, ints)) (omega (arith, ints)) c.form-in-Sub.ensures.meaning)

pub returns-in-Sub-clause-value : goal.returns-in-Sub-clause-value
returns-in-Sub-clause-value c =
    apply_value c.args.op c.args.fmt.now c.args.a c.args.b c.args.c _ c.requires.ready (returns-in-Sub-clause-meaning c)

pub returns-in-Sub-clause-bound : goal.returns-in-Sub-clause-bound
returns-in-Sub-clause-bound c =
    apply_small c.args.op c.args.fmt.now c.args.a c.args.b c.args.c _ c.requires.ready c.requires.b c.requires.c
    (returns-in-Sub-clause-meaning c)

pub returns-in-Neg-clause-meaning : goal.returns-in-Neg-clause-meaning
returns-in-Neg-clause-meaning c =
    apply_same _ _ c.args.fmt.now c.args.a c.args.b c.args.c _ c.in-Neg.is
    (form_same _ _ _ _ _ (omega (arith, ints)) (omega (arith, ints)) c.form-in-Neg.ensures.meaning)

pub returns-in-Neg-clause-value : goal.returns-in-Neg-clause-value
returns-in-Neg-clause-value c =
    apply_value c.args.op c.args.fmt.now c.args.a c.args.b c.args.c _ c.requires.ready (returns-in-Neg-clause-meaning c)

pub returns-in-Neg-clause-bound : goal.returns-in-Neg-clause-bound
returns-in-Neg-clause-bound c =
    apply_small c.args.op c.args.fmt.now c.args.a c.args.b c.args.c _ c.requires.ready c.requires.b c.requires.c
    (returns-in-Neg-clause-meaning c)

pub returns-in-Pass-clause-meaning : goal.returns-in-Pass-clause-meaning
returns-in-Pass-clause-meaning c =
    apply_same _ _ c.args.fmt.now c.args.a c.args.b c.args.c _ c.in-Pass.is
    (form_same _ _ _ _ _ (omega (arith, ints)) (omega (arith, ints)) c.form-in-Pass.ensures.meaning)

pub returns-in-Pass-clause-value : goal.returns-in-Pass-clause-value
returns-in-Pass-clause-value c =
    apply_value c.args.op c.args.fmt.now c.args.a c.args.b c.args.c _ c.requires.ready
    (returns-in-Pass-clause-meaning c)

pub returns-in-Pass-clause-bound : goal.returns-in-Pass-clause-bound
returns-in-Pass-clause-bound c =
    apply_small c.args.op c.args.fmt.now c.args.a c.args.b c.args.c _ c.requires.ready c.requires.b c.requires.c
    (returns-in-Pass-clause-meaning c)

pub returns-in-Mul-clause-meaning : goal.returns-in-Mul-clause-meaning
returns-in-Mul-clause-meaning c =
    let a : to_z w128 (of_z w128 (to_z w64 (of_z w64 c.args.a))) ≡ c.args.a = omega (arith, ints) in
    let b : to_z w128 (of_z w128 (to_z w64 (of_z w64 c.args.b))) ≡ c.args.b = omega (arith, ints) in
    let fits : FitsSigned w128
    (to_z w128 (of_z w128 (to_z w64 (of_z w64 c.args.a))) *ℤ to_z w128 (of_z w128 (to_z w64 (of_z w64 c.args.b)))) =
    fits_signed_mul w128 (to_z w128 (of_z w128 (to_z w64 (of_z w64 c.args.a))))
    (to_z w128 (of_z w128 (to_z w64 (of_z w64 c.args.b)))) (2 ^ 39) (2 ^ 39) (omega (arith, ints)) (omega (arith, ints))
    (lit< tt) in
    let product : to_z w128
    (of_z w128
    (to_z w128 (of_z w128 (to_z w64 (of_z w64 c.args.a))) *ℤ to_z w128 (of_z w128 (to_z w64 (of_z w64 c.args.b)))))
    ≡ c.args.a *ℤ c.args.b =
    to_z-of_z w128 _ fits ∙ product_as _ _ c.args.a c.args.b a b in
    apply_same _ _ c.args.fmt.now c.args.a c.args.b c.args.c _ c.in-Mul.is
    (form_same _ _ _ _ _ product (omega (arith, ints)) c.form-in-Mul.ensures.meaning)

pub returns-in-Mul-clause-value : goal.returns-in-Mul-clause-value
returns-in-Mul-clause-value c =
    apply_value c.args.op c.args.fmt.now c.args.a c.args.b c.args.c _ c.requires.ready (returns-in-Mul-clause-meaning c)

pub returns-in-Mul-clause-bound : goal.returns-in-Mul-clause-bound
returns-in-Mul-clause-bound c =
    apply_small c.args.op c.args.fmt.now c.args.a c.args.b c.args.c _ c.requires.ready c.requires.b c.requires.c
    (returns-in-Mul-clause-meaning c)
