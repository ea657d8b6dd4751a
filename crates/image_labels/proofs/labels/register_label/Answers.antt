use Rattle.std.proofs.Common.{◌≡◌, ◌∙◌, ◌-◌, ◌<◌, ℕ, refl, sym, ap, arith, find, option_copied, Some}
use Rattle.micro_image.specs.declared.image.Word.{Word}
use Rattle.image_labels.specs.Labels.{is_into, word_in}
use Rattle.image_labels.proofs.Scans.{register_found}
use Rattle.image_labels.proofs.labels.register_label.Goals as goal

pub returns-in-Some : goal.returns-in-Some
returns-in-Some c =
    let before : ℕ = c.args.cycle - c.loop-back.back - 1 in
    let less : c.loop-back.back < c.args.cycle = omega arith in
    let found : find (is_into c.args.unit c.args.port c.args.reg) (word_in c.args.image.now before).takes
    ≡ Some c.in-Some.take.now =
    ap (λ (w : Word). find (is_into c.args.unit c.args.port c.args.reg) w.takes) (sym c.word_in.ensures)
    ∙ sym c.take_into.ensures ∙ ap option_copied c.in-Some.is in
    c.driven_label.ensures
    ∙ sym (register_found c.args.image.now c.args.certificate.now c.args.cycle c.loop-back.back before less refl
    c.args.unit c.args.port c.args.reg c.in-Some.take.now found)
    ∙ sym c.loop-back.invariant
