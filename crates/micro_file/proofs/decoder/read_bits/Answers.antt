use Rattle.std.proofs.Common.{rules, ◌≡◌, Ok}
use Rattle.std.proofs.lemmas.Result.{err_from_is_err_and}
use Rattle.micro_image.specs.declared.image.Image.{Image}
use Rattle.micro_bits.proofs.Bits.{IsDigits}
use Rattle.micro_file.specs.Private.Bits.{at_bits}
use Rattle.micro_file.specs.Private.Hardware.{hardware_at}
use Rattle.micro_file.specs.Private.PackedWords.{packed_word_at}
use Rattle.micro_file.proofs.BitsForm.{reads_bits}
use Rattle.micro_file.proofs.FileReader.{bits_of_digits}
use Rattle.micro_file.proofs.HardwareReader.{hardware_reader, is_numbered}
use Rattle.micro_file.proofs.ImageSteps.{hardware_fails, words_fail, image_read, bits_fail, padding_fails, bits_end}
use Rattle.micro_file.proofs.Readers.{bit_values}
use Rattle.micro_file.proofs.decoder.read_bits.Goals as goal

pub returns-in_err-image : goal.returns-in_err-image
returns-in_err-image c =
    let p = err_from_is_err_and c.from_residual.result c.from_residual.ensures.1 in
    let unread = c.in_err-image.field-0.0 in
    let bits = c.new-reader.result in
    rw (p.1, p.2, ← c.new-reader.ensures)
    (bits_fail unread bits (hardware_fails at_bits packed_word_at bits unread c.in_err-image.ensures))

pub read_words-requires : goal.read_words-requires
read_words-requires c =
    let hardware : hardware_at at_bits c.new-reader.result ≡ Ok (c.in_ok-image.image, c.read_hardware.new.reader) =
    search rules in
    let digits : IsDigits bit_values c.new-reader.result =
    rw c.new-reader.ensures (bits_of_digits c.args.bytes.now) in
    is_numbered c.in_ok-image.image
    ((hardware_reader reads_bits).took c.new-reader.result digits (c.in_ok-image.image, c.read_hardware.new.reader)
    hardware).allowed

pub returns-in_err-words : goal.returns-in_err-words
returns-in_err-words c =
    let p = err_from_is_err_and c.from_residual-in_err-words.result c.from_residual-in_err-words.ensures.1 in
    let unread = c.in_err-words.field-0.0 in
    let bits = c.new-reader.result in
    let counted = c.word_count.ensures in
    let hardware : hardware_at at_bits bits ≡ Ok (c.in_ok-image.image, c.read_hardware.new.reader) = search rules in
    rw (p.1, p.2, ← c.new-reader.ensures)
    (bits_fail unread bits
    (words_fail at_bits packed_word_at bits (c.in_ok-image.image, c.read_hardware.new.reader) hardware unread
    (rw (← counted) c.in_err-words.ensures)))

pub returns-in_err-pass_padding : goal.returns-in_err-pass_padding
returns-in_err-pass_padding c =
    let p =
    err_from_is_err_and c.from_residual-in_err-pass_padding.result c.from_residual-in_err-pass_padding.ensures.1 in
    let bits = c.new-reader.result in
    let counted = c.word_count.ensures in
    let hardware : hardware_at at_bits bits ≡ Ok (c.in_ok-image.image, c.read_hardware.new.reader) = search rules in
    let whole : Image = record c.in_ok-image.image { words = c.in_ok-words.words } in
    let read =
    image_read at_bits packed_word_at bits (c.in_ok-image.image, c.read_hardware.new.reader) hardware
    c.in_ok-words.words c.read_words.new.reader (rw (← counted) c.in_ok-words.ensures) in
    rw (p.1, p.2, ← c.new-reader.ensures)
    (padding_fails bits (whole, c.read_words.new.reader) read c.in_err-pass_padding.field-0.0
    c.in_err-pass_padding.ensures)

pub returns : goal.returns
returns c =
    let bits = c.new-reader.result in
    let counted = c.word_count.ensures in
    let hardware : hardware_at at_bits bits ≡ Ok (c.in_ok-image.image, c.read_hardware.new.reader) = search rules in
    let whole : Image = record c.in_ok-image.image { words = c.in_ok-words.words } in
    let read =
    image_read at_bits packed_word_at bits (c.in_ok-image.image, c.read_hardware.new.reader) hardware
    c.in_ok-words.words c.read_words.new.reader (rw (← counted) c.in_ok-words.ensures) in
    rw (← c.new-reader.ensures)
    (rw (bits_end bits (whole, c.read_words.new.reader) read c.pass_padding.new.reader c.in_ok-pass_padding.ensures)
    (c.end.ensures c.pass_padding.new.reader c.count.ensures.count))
