use Rattle.std.proofs.Common.{arith, ◌≡◌, ◌∙◌, ap, of_z, ℤ}
use Rattle.std.specs.Int.{w128}
use Rattle.std.proofs.lemmas.Int.{ints}
use Rattle.fix_word.specs.Values.{wrap_of}
use Rattle.fix_word.proofs.Bodies.{wrap_as}
use Rattle.fix_word.proofs.Shifts.{wrap_low, masked, wide_unsigned_of}
use Rattle.fix_word.proofs.words.wrap.Goals as goal

pub returns-clause-value : goal.returns-clause-value
returns-clause-value c =
    let up = wide_unsigned_of c.args.q (omega (arith, ints)) in
    let low = wrap_low c.args.q (of_z w128 c.args.q) c.args.w up.0 c.requires.width.narrowest
    (omega (arith, c.requires.width.widest)) up.1 in
    let bits = masked (of_z w128 c.args.q) in
    let word : c.sign_extended.result ≡ wrap_of c.args.q c.args.w =
    c.sign_extended.ensures ∙ ap (λ (z : ℤ). wrap_of z c.args.w) (omega (arith, ints, bits)) ∙ low in
    omega (arith, ints, word)

pub returns-clause-meaning : goal.returns-clause-meaning
returns-clause-meaning c =
    wrap_as c.args.q c.args.w _ c.requires.width.narrowest (returns-clause-value c)
