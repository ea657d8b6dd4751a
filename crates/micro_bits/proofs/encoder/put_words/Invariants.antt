use Rattle.std.proofs.Common.{◌≡◌, ◌++◌, take}
use Rattle.std.specs.List.{flat_map}
use Rattle.micro_image.specs.Bits.{word_bits}
use Rattle.micro_bits.proofs.encoder.put_words.Given as goal

abbrev pub invariant-loop-word : goal.invariant-loop-word
invariant-loop-word l = l.out
    ≡ l.fn.out ++ flat_map (word_bits l.image.units l.image.buses) (take l.word-index l.word-items)
