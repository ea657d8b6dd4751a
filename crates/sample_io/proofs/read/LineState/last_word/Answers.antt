-- A row's text ends in the digits of its last word.
use Rattle.std.proofs.Common.{rules, ◌++◌, ◌∷◌, [], ℤ, arith, subst, sym, ◌∙◌, FitsSigned, w64}
use Rattle.std.proofs.lemmas.Int.{to_z-of_z}
use Rattle.sample_io.specs.Samples.{RowText}
use Rattle.sample_io.proofs.Bytes.{magnitude_small}
use Rattle.sample_io.proofs.Files.{is_text, only_text}
use Rattle.sample_io.proofs.read.LineState.last_word.Goals as goal

pub returns-in_default : goal.returns-in_default
returns-in_default c = λ line words h row text.
    let end = only_text c.args.channels.now c.requires.channels line words c.args.self.now h row text in
    c.in_default.not-Digits end.negative end.magnitude end.part_is

pub returns-then-self-channels : goal.returns-then-self-channels
returns-then-self-channels c = λ line words h row text.
    let end = only_text c.args.channels.now c.requires.channels line words c.args.self.now h row text in
    omega (arith, end.last, c.if-self-channels.true)

pub signed_word-requires : goal.signed_word-requires
signed_word-requires c =
    let small =
    magnitude_small c.args.channels.now c.requires.channels c.requires.state.0 c.requires.state.1 c.args.self.now
    c.requires.state.2
    c.in-Digits.negative c.in-Digits.magnitude c.in-Digits.is in
    omega (arith, small)

pub returns : goal.returns
returns c = λ line words h.
    let fits : FitsSigned w64 c.signed_word.result = search rules in
    subst (λ (z : ℤ). RowText c.args.channels.now line (words ++ z ∷ []))
    (sym (to_z-of_z w64 c.signed_word.result fits ∙ c.signed_word.ensures))
    (is_text c.args.channels.now line words c.args.self.now h c.in-Digits.negative c.in-Digits.magnitude c.in-Digits.is
    c.if-self-channels.false)
