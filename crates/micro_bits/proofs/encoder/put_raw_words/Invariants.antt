use Rattle.std.proofs.Common.{◌≡◌, ◌++◌, take}
use Rattle.std.specs.List.{flat_map}
use Rattle.micro_image.specs.Bits.{raw_bits}
use Rattle.micro_bits.proofs.encoder.put_raw_words.Given as goal

abbrev pub invariant-loop-raw_word : goal.invariant-loop-raw_word
invariant-loop-raw_word l = l.out ≡ l.fn.out ++ flat_map raw_bits (take l.raw_word-index l.raw_word-items)
