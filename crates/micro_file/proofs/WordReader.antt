-- The reader of words of version 1.
use Rattle.std.proofs.Common.{◌≡◌, ◌++◌, length, append_assoc}
use Rattle.std.specs.List.{flat_map}
use Rattle.micro_image.specs.declared.image.Image.{Image}
use Rattle.micro_image.specs.declared.image.Word.{Word}
use Rattle.micro_image.specs.Bytes.{one_byte, two_bytes, issue_bytes, enable_bytes, take_bytes, word_bytes}
use Rattle.micro_image.specs.Valid.{IsWordOf}
use Rattle.micro_file.specs.Private.Words.{enables_at, takes_at, issues_at, word_at}
use Rattle.micro_file.proofs.Readers.{byte_values, IsReader, so_spelled}
use Rattle.micro_file.proofs.TransferReader.{enables_reader, takes_reader}
use Rattle.micro_file.proofs.Issues.{AllHave}
use Rattle.micro_file.proofs.IssueOnReader.{HasFewWords}
use Rattle.micro_file.proofs.IssueReader.{issues_reader}
use Rattle.micro_file.proofs.WordLists.{lists_reader}

-- the bytes of a word by its lists
in_lists : (word : Word)
    → (one_byte (length word.issues) ++ flat_map issue_bytes word.issues)
    ++ (two_bytes (length word.enables) ++ flat_map enable_bytes word.enables)
    ++ (two_bytes (length word.takes) ++ flat_map take_bytes word.takes) ≡ word_bytes word
unfolding word_bytes
in_lists word = simp append_assoc

pub word_reader : (image : Image)
    → HasFewWords image
    → AllHave image
    → IsReader byte_values (IsWordOf image) word_bytes (word_at image)
unfolding word_at
word_reader image few have =
    so_spelled in_lists
    (lists_reader (issues_at image) (enables_at image) (takes_at image) image (issues_reader image few have)
    (enables_reader image) (takes_reader image))
