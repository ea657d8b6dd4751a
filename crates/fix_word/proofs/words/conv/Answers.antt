use Rattle.std.proofs.Common.{arith, subst, sym, ℤ, ◌-ℤ◌, to_z, of_z}
use Rattle.std.specs.Int.{w8, w16, w128}
use Rattle.std.proofs.lemmas.Int.{ints}
use Rattle.fix_word.specs.Words.{IsConv}
use Rattle.fix_word.proofs.Conversions.{conv_as, conv_is}
use Rattle.fix_word.proofs.words.conv.Goals as goal

pub returns-clause-value : goal.returns-clause-value
returns-clause-value c =
    let shift : ℤ = to_z w8 (of_z w8 (to_z w16 (of_z w16 (to_z w16 (of_z w16 c.args.f1) -ℤ to_z w16 c.args.to.f)))) in
    conv_as c.args.m (to_z w128 (of_z w128 c.args.m)) c.args.f1 shift c.args.to c.args.mode c.form.result _
    (omega (arith, ints)) (omega (arith, ints)) (omega (arith, ints)) c.form.ensures.value

pub returns-clause-meaning : goal.returns-clause-meaning
returns-clause-meaning c =
    subst (λ (r : ℤ). IsConv c.args.m c.args.f1 c.args.to c.args.mode r) (sym (returns-clause-value c))
    (conv_is c.args.m c.args.f1 c.args.to c.args.mode c.requires.shape.width)
