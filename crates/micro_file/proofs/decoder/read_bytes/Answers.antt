use Rattle.std.proofs.Common.{rules, ◌≡◌, Ok}
use Rattle.std.proofs.lemmas.Result.{err_from_is_err_and}
use Rattle.micro_image.specs.declared.image.Image.{Image}
use Rattle.micro_file.specs.Private.Bytes.{at_bytes}
use Rattle.micro_file.specs.Private.Hardware.{hardware_at}
use Rattle.micro_file.specs.Private.Words.{word_at}
use Rattle.micro_file.proofs.ImageSteps.{hardware_fails, words_fail, image_read, bytes_fail, bytes_end}
use Rattle.micro_file.proofs.decoder.read_bytes.Goals as goal

pub returns-in_err-image : goal.returns-in_err-image
returns-in_err-image c =
    let p = err_from_is_err_and c.from_residual.result c.from_residual.ensures.1 in
    let unread = c.in_err-image.field-0.0 in
    rw (p.1, p.2)
    (bytes_fail unread c.args.reader.now
    (hardware_fails at_bytes word_at c.args.reader.now unread c.in_err-image.ensures))

pub returns-in_err-words : goal.returns-in_err-words
returns-in_err-words c =
    let p = err_from_is_err_and c.from_residual-in_err-words.result c.from_residual-in_err-words.ensures.1 in
    let unread = c.in_err-words.field-0.0 in
    let counted = c.word_count.ensures in
    let hardware : hardware_at at_bytes c.args.reader.now ≡ Ok (c.in_ok-image.image, c.read_hardware.new.reader) =
    search rules in
    rw (p.1, p.2)
    (bytes_fail unread c.args.reader.now
    (words_fail at_bytes word_at c.args.reader.now (c.in_ok-image.image, c.read_hardware.new.reader) hardware unread
    (rw (← counted) c.in_err-words.ensures)))

pub returns : goal.returns
returns c =
    let counted = c.word_count.ensures in
    let hardware : hardware_at at_bytes c.args.reader.now ≡ Ok (c.in_ok-image.image, c.read_hardware.new.reader) =
    search rules in
    let whole : Image = record c.in_ok-image.image { words = c.in_ok-words.words } in
    let read =
    image_read at_bytes word_at c.args.reader.now (c.in_ok-image.image, c.read_hardware.new.reader) hardware
    c.in_ok-words.words c.read_words.new.reader (rw (← counted) c.in_ok-words.ensures) in
    rw (bytes_end c.args.reader.now (whole, c.read_words.new.reader) read)
    (c.end.ensures c.read_words.new.reader c.left.ensures.count)
