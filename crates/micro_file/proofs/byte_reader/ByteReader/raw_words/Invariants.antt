use Rattle.std.proofs.Common.{◌≡◌, ◌-◌, []}
use Rattle.micro_file.specs.Private.Fields.{many_at}
use Rattle.micro_file.specs.Private.Bytes.{raw_word_at}
use Rattle.micro_file.proofs.byte_reader.ByteReader.raw_words.Given as goal

abbrev pub invariant-loop : goal.invariant-loop
invariant-loop l =
    many_at (λ _. raw_word_at) l.raw_words (l.count - l.counter) l.self
    ≡ many_at (λ _. raw_word_at) [] l.count l.fn.self
