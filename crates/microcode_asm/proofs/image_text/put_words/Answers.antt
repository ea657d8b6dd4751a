use Rattle.std.proofs.Common.{◌≡◌, ◌∙◌, ap, arith, ◌++◌}
use Rattle.std.proofs.lemmas.List.{get_or_default}
use Rattle.micro_image.specs.Fields.{nth, no_word}
use Rattle.micro_image.specs.declared.image.Word.{Word}
use Rattle.microcode_asm.specs.Listing.{word_lines, numbered_lines}
use Rattle.microcode_asm.proofs.RegisterLists.{lines_more}
use Rattle.microcode_asm.proofs.image_text.put_words.Goals as goal

pub loop-number-preserved : goal.loop-number-preserved
loop-number-preserved c =
    let words = c.args.image.now.words in
    let number = c.loop-number.number in
    let word : c.index.result.now ≡ nth words number no_word =
    c.index.ensures ∙ get_or_default words number c.index.result.now no_word (omega arith) in
    lines_more (numbered_lines c.args.image.now) c.args.out.now c.loop-number.out c.put_word.new.out number
    c.loop-number.invariant
    (c.in_ok-put_word.ensures ∙ ap (λ (w : Word). c.loop-number.out ++ word_lines number w) word)
