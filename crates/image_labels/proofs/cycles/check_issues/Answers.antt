use Rattle.std.proofs.Common.{arith, subst, ap, sym, ◌∙◌, IsTrue}
use Rattle.std.specs.List.{All}
use Rattle.std.proofs.lemmas.List.{take_all}
use Rattle.std.proofs.lemmas.List.Elements.{All-more}
use Rattle.micro_image.specs.declared.image.Word.{Word}
use Rattle.image_labels.specs.Labelled.{IsFit}
use Rattle.image_labels.proofs.cycles.check_issues.Goals as goal

pub loop-issue-preserved : goal.loop-issue-preserved
loop-issue-preserved c =
    All-more (IsFit c.args.graph.now c.args.image.now c.args.certificate.now c.args.cycle)
    c.deref-issue-items.result.now c.loop-issue.issue-index
    c.issue-item.result (omega arith) c.loop-issue.invariant
    (subst (IsFit c.args.graph.now c.args.image.now c.args.certificate.now c.args.cycle) c.issue-item.is
    (c.is_fit.ensures.yes c.if-not-is_fit.false))

pub returns-clause-ok : goal.returns-clause-ok
returns-clause-ok c =
    subst (All (IsFit c.args.graph.now c.args.image.now c.args.certificate.now c.args.cycle))
    (take_all c.loop-issue.issue-index c.deref-issue-items.result.now (omega arith)
    ∙ c.deref-issue-items.ensures ∙ ap (λ (w : Word). w.issues) c.word_in.ensures)
    c.loop-issue.invariant

pub returns-then-not-is_fit-clause-err : goal.returns-then-not-is_fit-clause-err
returns-then-not-is_fit-clause-err c all =
    let items : All (IsFit c.args.graph.now c.args.image.now c.args.certificate.now c.args.cycle)
    c.deref-issue-items.result.now =
    subst (All (IsFit c.args.graph.now c.args.image.now c.args.certificate.now c.args.cycle))
    (sym (c.deref-issue-items.ensures ∙ ap (λ (w : Word). w.issues) c.word_in.ensures)) all in
    let is : IsTrue c.is_fit.result =
    c.is_fit.ensures.no
    (subst (IsFit c.args.graph.now c.args.image.now c.args.certificate.now c.args.cycle) (sym c.issue-item.is)
    (items c.loop-issue.issue-index c.issue-item.result (omega arith))) in
    grind (arith, is, c.if-not-is_fit.true)
