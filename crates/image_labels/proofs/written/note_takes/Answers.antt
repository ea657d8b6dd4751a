use Rattle.std.proofs.Common.{◌∙◌, ◌+◌, arith, ap, sym, subst, take, length}
use Rattle.std.proofs.lemmas.List.{length-set, take_all}
use Rattle.micro_image.specs.declared.image.Word.{Word}
use Rattle.image_labels.specs.Private.Written.{AreNoted}
use Rattle.image_labels.proofs.Unwritten.{no_take, noted_more, noted_all}
use Rattle.image_labels.proofs.written.note_takes.Goals as goal

pub loop-take-preserved : goal.loop-take-preserved
loop-take-preserved c = (
  ap length c.note_take.ensures ∙ length-set c.loop-take.last _ _ ∙ c.loop-take.invariant.0,
  λ not. subst
      (λ last.
      AreNoted c.args.image.now last c.args.cycle (take (c.loop-take.take-index + 1) c.deref-take-items.result.now))
      (sym c.note_take.ensures)
      (noted_more c.args.image.now c.loop-take.last c.args.cycle c.deref-take-items.result.now c.loop-take.take-index
      no_take (omega arith) (c.loop-take.invariant.1 not)),
)

pub returns-clause-unwritten : goal.returns-clause-unwritten
returns-clause-unwritten c not =
    noted_all c.args.image.now c.loop-take.last c.args.cycle
    (subst (AreNoted c.args.image.now c.loop-take.last c.args.cycle)
    (take_all c.loop-take.take-index c.deref-take-items.result.now (omega arith)
    ∙ c.deref-take-items.ensures ∙ ap (λ (w : Word). w.takes) c.word_in.ensures)
    (c.loop-take.invariant.1 not))
