use Rattle.std.proofs.Common.{arith, subst, ap, sym, ◌∙◌, IsTrue}
use Rattle.std.specs.List.{All}
use Rattle.std.proofs.lemmas.List.{take_all}
use Rattle.std.proofs.lemmas.List.Elements.{All-more}
use Rattle.micro_image.specs.declared.image.Enable.{Enable}
use Rattle.micro_image.specs.declared.image.Word.{Word}
use Rattle.image_labels.specs.Labelled.{IsDrive}
use Rattle.image_labels.proofs.cycles.check_enables.Goals as goal

abbrev no_enable : Enable
no_enable = record { unit = 0; bus = 0 }

pub loop-enable-preserved : goal.loop-enable-preserved
loop-enable-preserved c =
    All-more (IsDrive c.args.image.now c.args.cycle) c.deref-enable-items.result.now c.loop-enable.enable-index
    no_enable (omega arith) c.loop-enable.invariant (c.is_drive.ensures.0 c.if-not-is_drive.false)

pub returns-clause-ok : goal.returns-clause-ok
returns-clause-ok c =
    subst (All (IsDrive c.args.image.now c.args.cycle))
    (take_all c.loop-enable.enable-index c.deref-enable-items.result.now (omega arith)
    ∙ c.deref-enable-items.ensures ∙ ap (λ (w : Word). w.enables) c.word_in.ensures)
    c.loop-enable.invariant

pub returns-then-not-is_drive-clause-err : goal.returns-then-not-is_drive-clause-err
returns-then-not-is_drive-clause-err c all =
    let items : All (IsDrive c.args.image.now c.args.cycle) c.deref-enable-items.result.now =
    subst (All (IsDrive c.args.image.now c.args.cycle))
    (sym (c.deref-enable-items.ensures ∙ ap (λ (w : Word). w.enables) c.word_in.ensures)) all in
    let is : IsTrue c.is_drive.result =
    c.is_drive.ensures.1 (items c.loop-enable.enable-index no_enable (omega arith)) in
    grind (arith, is, c.if-not-is_drive.true)
