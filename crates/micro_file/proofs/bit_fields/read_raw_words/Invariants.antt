use Rattle.std.proofs.Common.{◌≡◌, ◌-◌, []}
use Rattle.micro_file.specs.Private.Bits.{raw_word_at}
use Rattle.micro_file.specs.Private.Fields.{many_at}
use Rattle.micro_file.proofs.bit_fields.read_raw_words.Given as goal

abbrev pub invariant-loop : goal.invariant-loop
invariant-loop l =
    many_at (λ _. raw_word_at) l.raw_words (l.count - l.counter) l.reader
    ≡ many_at (λ _. raw_word_at) [] l.count l.fn.reader
