use Rattle.std.proofs.Common.{arith, subst, sym, find, ◌==◌, IsSome, IsTrue}
use Rattle.micro_image.specs.declared.image.Enable.{Enable}
use Rattle.micro_image.specs.declared.image.Word.{Word}
use Rattle.image_labels.proofs.cycles.is_taken.Goals as goal

pub returns-else-has_driver : goal.returns-else-has_driver
returns-else-has_driver c = (
  λ is. absurd (cc is),
  λ taken. let is : IsTrue c.has_driver.result =
      c.has_driver.ensures.1
      (subst (λ (w : Word). IsSome (find (λ (enable : Enable). enable.bus == c.args.take.now.bus) w.enables))
      (sym c.word_in-word.ensures) taken.driver) in
      grind (arith, is, c.if-has_driver.false),
)
