use Rattle.std.proofs.Common.{arith, subst, ap, sym, ◌∙◌, IsTrue}
use Rattle.std.specs.List.{All}
use Rattle.std.proofs.lemmas.List.{take_all}
use Rattle.std.proofs.lemmas.List.Elements.{All-more}
use Rattle.micro_image.specs.declared.image.Word.{Word}
use Rattle.image_labels.specs.Labelled.{IsTaken}
use Rattle.image_labels.proofs.Unwritten.{no_take}
use Rattle.image_labels.proofs.cycles.check_takes.Goals as goal

pub loop-take-preserved : goal.loop-take-preserved
loop-take-preserved c =
    All-more (IsTaken c.args.image.now c.args.cycle) c.deref-take-items.result.now c.loop-take.take-index
    no_take (omega arith) c.loop-take.invariant (c.is_taken.ensures.0 c.if-not-is_taken.false)

pub returns-clause-ok : goal.returns-clause-ok
returns-clause-ok c =
    subst (All (IsTaken c.args.image.now c.args.cycle))
    (take_all c.loop-take.take-index c.deref-take-items.result.now (omega arith)
    ∙ c.deref-take-items.ensures ∙ ap (λ (w : Word). w.takes) c.word_in.ensures)
    c.loop-take.invariant

pub returns-then-not-is_taken-clause-err : goal.returns-then-not-is_taken-clause-err
returns-then-not-is_taken-clause-err c all =
    let items : All (IsTaken c.args.image.now c.args.cycle) c.deref-take-items.result.now =
    subst (All (IsTaken c.args.image.now c.args.cycle))
    (sym (c.deref-take-items.ensures ∙ ap (λ (w : Word). w.takes) c.word_in.ensures)) all in
    let is : IsTrue c.is_taken.result = c.is_taken.ensures.1 (items c.loop-take.take-index no_take (omega arith)) in
    grind (arith, is, c.if-not-is_taken.true)
