use Rattle.std.proofs.Common.{arith, subst, pos}
use Rattle.std.specs.List.{All}
use Rattle.std.proofs.lemmas.List.{take_all}
use Rattle.std.proofs.lemmas.List.Elements.{All-more}
use Rattle.fix_word.specs.Words.{IsWord}
use Rattle.image_fit.proofs.starts.are_within.Goals as goal

pub loop-at-preserved : goal.loop-at-preserved
loop-at-preserved c =
    All-more (IsWord c.args.bits) c.args.words.now c.loop-at.at (pos 0) (omega arith) c.loop-at.invariant
    (c.is_word_within.ensures c.if-not-is_word_within.false)

pub returns : goal.returns
returns c h =
    subst (All (IsWord c.args.bits)) (take_all c.loop-at.at c.args.words.now (omega arith)) c.loop-at.invariant
