use Rattle.std.proofs.Common.{◌∙◌, sym, ap, arith, option_copied, w64}
use Rattle.std.proofs.lemmas.Int.{to_z-of_z}
use Rattle.signal_graph.specs.Rules.{word_or_zero}
use Rattle.image_labels.proofs.hardware.word_before.Goals as goal

pub returns-in-Some : goal.returns-in-Some
returns-in-Some c =
    to_z-of_z w64 c.word_of_init.result (omega (arith, c.word_of_init.type_inv))
    ∙ c.word_of_init.ensures
    ∙ ap word_or_zero (sym (ap option_copied c.in-Some.is) ∙ c.init_at.ensures)

pub returns-in-None : goal.returns-in-None
returns-in-None c =
    ap word_or_zero (sym (ap option_copied c.in-None.is) ∙ c.init_at.ensures)
