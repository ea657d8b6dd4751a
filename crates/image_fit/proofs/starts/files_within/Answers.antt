use Rattle.std.proofs.Common.{arith, subst, ◌∙◌}
use Rattle.std.specs.List.{All}
use Rattle.std.proofs.lemmas.List.{take_all}
use Rattle.std.proofs.lemmas.List.Elements.{All-more}
use Rattle.fix_word.specs.Words.{IsWord}
use Rattle.image_fit.proofs.starts.files_within.Goals as goal

pub loop-file-preserved : goal.loop-file-preserved
loop-file-preserved c =
    All-more (All (IsWord c.args.bits)) c.deref-file-items.result.now c.loop-file.file-index c.file-item.result
    (omega arith) c.loop-file.invariant
    (subst (All (IsWord c.args.bits)) c.file-item.is (c.are_within.ensures c.if-not-are_within.false))

pub returns : goal.returns
returns c h =
    subst (All (All (IsWord c.args.bits))) (take_all c.loop-file.file-index c.deref-file-items.result.now (omega arith)
    ∙ c.deref-file-items.ensures) c.loop-file.invariant
