use Rattle.std.proofs.Common.{◌≡◌, ◌∙◌, ℕ, ap, arith, sym, subst, length, option_copied, Some}
use Rattle.micro_image.specs.declared.image.Word.{Word}
use Rattle.micro_image.specs.Fields.{nth}
use Rattle.image_labels.specs.Labels.{issued_in, word_in}
use Rattle.image_labels.specs.Private.Written.{IsUnwritten}
use Rattle.image_labels.proofs.Unwritten.{hint_is}
use Rattle.image_labels.proofs.written.hint_on.Goals as goal

pub returns-then-from-reg : goal.returns-then-from-reg
returns-then-from-reg c =
    let found : issued_in (word_in c.args.image.now c.args.cycle) c.args.unit ≡ Some c.in-Some.found.now =
    ap (λ (w : Word). issued_in w c.args.unit) (sym c.word_in.ensures)
    ∙ sym c.issued_in.ensures ∙ ap option_copied c.in-Some.is in
    let same : nth c.in-Some.found.now.regs c.args.port 0 ≡ c.args.reg =
    omega (arith, c.register_at.ensures, c.from.ensures, c.if-from-reg.true) in
    subst (λ (since : ℕ). IsUnwritten c.args.image.now c.args.unit c.args.port c.args.reg since c.args.cycle)
    (sym c.written_in.ensures)
    (hint_is c.args.image.now c.args.certificate.now (length c.args.image.now.words) c.args.cycle c.args.unit
    c.args.port
    c.args.reg c.in-Some.found.now c.requires.reads c.requires.cycle c.requires.port found same)
