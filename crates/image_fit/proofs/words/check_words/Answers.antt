use Rattle.std.proofs.Common.{arith, subst}
use Rattle.std.specs.List.{All}
use Rattle.std.proofs.lemmas.List.{take_all}
use Rattle.std.proofs.lemmas.List.Elements.{All-more}
use Rattle.image_fit.specs.Fits.{IsWordOn}
use Rattle.image_fit.proofs.words.check_words.Goals as goal

pub loop-number-preserved : goal.loop-number-preserved
loop-number-preserved c =
    All-more (IsWordOn c.args.path.now) c.args.words.now c.loop-number.number c.index-words-number.result (omega arith)
    c.loop-number.invariant
    (subst (IsWordOn c.args.path.now) c.index-words-number.is c.in_ok-check_word.ensures)

pub returns : goal.returns
returns c =
    subst (All (IsWordOn c.args.path.now)) (take_all c.loop-number.number c.args.words.now (omega arith))
    c.loop-number.invariant
