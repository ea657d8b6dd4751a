-- The reader of words of version 2.
use Rattle.std.proofs.Common.{◌≤◌, length}
use Rattle.micro_image.specs.declared.image.Image.{Image}
use Rattle.micro_image.specs.Bits.{word_bits}
use Rattle.micro_image.specs.Valid.{IsWordOf}
use Rattle.micro_file.specs.Private.PackedWords.{slots_at, drives_at, word_takes_at, packed_word_at}
use Rattle.micro_file.proofs.GroupedEnables.{drives_reader}
use Rattle.micro_file.proofs.GroupedIssues.{slots_reader}
use Rattle.micro_file.proofs.GroupedTakes.{word_takes_reader}
use Rattle.micro_file.proofs.IssueOnReader.{HasFewWords}
use Rattle.micro_file.proofs.Issues.{AllHave}
use Rattle.micro_file.proofs.Readers.{bit_values, IsReader}
use Rattle.micro_file.proofs.WordLists.{lists_reader}

pub packed_word_reader : (image : Image)
    → HasFewWords image
    → AllHave image
    → (image.buses ≤ 32) × (length image.units ≤ 32)
    → IsReader bit_values (IsWordOf image) (word_bits image.units image.buses) (packed_word_at image)
unfolding packed_word_at word_bits
packed_word_reader image few have few_units =
    lists_reader (slots_at image) (drives_at image) (word_takes_at image) image (slots_reader image few have)
    (drives_reader image few_units) (word_takes_reader image have few_units.0)
