use Rattle.std.proofs.Common.{◌≡◌, ◌-◌, []}
use Rattle.micro_file.specs.Private.Fields.{many_at}
use Rattle.micro_file.specs.Private.Words.{word_at}
use Rattle.micro_file.proofs.byte_words.read_words.Given as goal

abbrev pub invariant-loop : goal.invariant-loop
invariant-loop l =
    many_at (λ _. word_at l.image) l.words (l.count - l.counter) l.reader
    ≡ many_at (λ _. word_at l.image) [] l.count l.fn.reader
