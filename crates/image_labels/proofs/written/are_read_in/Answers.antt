use Rattle.std.proofs.Common.{arith, subst, ap, ◌∙◌}
use Rattle.std.specs.List.{All}
use Rattle.std.proofs.lemmas.List.{take_all}
use Rattle.std.proofs.lemmas.List.Elements.{All-more}
use Rattle.micro_image.specs.declared.image.Word.{Word}
use Rattle.image_labels.specs.Private.Written.{AreReadSince}
use Rattle.image_labels.proofs.written.are_read_in.Goals as goal

pub loop-issue-preserved : goal.loop-issue-preserved
loop-issue-preserved c =
    All-more (AreReadSince c.args.image.now c.args.certificate.now c.args.cycle) c.deref-issue-items.result.now
    c.loop-issue.issue-index c.issue-item.result (omega arith) c.loop-issue.invariant
    (subst (AreReadSince c.args.image.now c.args.certificate.now c.args.cycle) c.issue-item.is
    (c.are_read_since.ensures c.if-not-are_read_since.false))

pub returns : goal.returns
returns c =
    λ is. subst (All (AreReadSince c.args.image.now c.args.certificate.now c.args.cycle))
    (take_all c.loop-issue.issue-index c.deref-issue-items.result.now (omega arith)
    ∙ c.deref-issue-items.ensures ∙ ap (λ (w : Word). w.issues) c.word_in.ensures)
    c.loop-issue.invariant
