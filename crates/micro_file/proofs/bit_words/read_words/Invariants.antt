use Rattle.std.proofs.Common.{◌≡◌, ◌-◌, []}
use Rattle.micro_file.specs.Private.Fields.{many_at}
use Rattle.micro_file.specs.Private.PackedWords.{packed_word_at}
use Rattle.micro_file.specs.Private.Zeros.{StartsWithZeros}
use Rattle.micro_file.proofs.bit_words.read_words.Given as goal

abbrev pub invariant-loop : goal.invariant-loop
invariant-loop l =
    StartsWithZeros l.zeros l.reader
    × (many_at (λ _. packed_word_at l.image) l.words (l.count - l.counter) l.reader
    ≡ many_at (λ _. packed_word_at l.image) [] l.count l.fn.reader)
