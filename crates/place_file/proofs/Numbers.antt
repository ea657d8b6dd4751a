-- Numbers in decimal.
use Rattle.std.proofs.Common.{ℕ, List, IsUtf8}
use Rattle.std.proofs.lemmas.Str.{IsUtf8-from_ascii}
use Rattle.std.proofs.lemmas.Fmt.{IsAscii-from_digits}
use Rattle.place_file.specs.Given.{IsNumber}

-- the text of a number is UTF-8
pub number_text : (limit : ℕ) (word : List ℕ) (n : ℕ) → IsNumber limit word n → IsUtf8 word
number_text limit word n is = IsUtf8-from_ascii word (IsAscii-from_digits word is.digits.1)
