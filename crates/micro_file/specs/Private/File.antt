-- The whole file: the magic bytes, SILM, the version, and what the version has behind them.
use Rattle.std.specs.Prelude.{ℕ, ◌%◌, ◌==◌, if◌then◌else◌, List, length, take, drop, Result, Ok, Err}
use Rattle.std.specs.List.{list_all}
use Rattle.micro_image.specs.declared.image.Image.{Image}
use Rattle.micro_image.specs.declared.version.Version.{Version}
use Rattle.micro_image.specs.declared.version.Version.TheVariants.{One, Two}
use Rattle.micro_image.specs.Spells.{bits_of}
use Rattle.micro_file.specs.declared.misread.Misread.{Misread}
use Rattle.micro_file.specs.declared.misread.Misread.TheVariants as misread
pub use Rattle.micro_file.specs.File.{bytes_of, byte_misread}
use Rattle.micro_file.specs.Private.Bits.{at_bits}
use Rattle.micro_file.specs.Private.Bytes.{at_bytes, byte_at, only_byte}
use Rattle.micro_file.specs.Private.Fields.{Reading, ◌>>=◌, refused}
use Rattle.micro_file.specs.Private.Hardware.{image_at}
use Rattle.micro_file.specs.Private.PackedWords.{packed_word_at}
use Rattle.micro_file.specs.Private.Words.{word_at}

-- the version of this number
abbrev pub numbered : ℕ × List ℕ → Reading Version
numbered n = if n.0 == 1 then Ok (One, n.1) else if n.0 == 2 then Ok (Two, n.1) else Err misread.Version

-- the magic bytes and the version
unfoldable pub head_at : List ℕ → Reading Version
head_at bytes = do
  s ← only_byte misread.Magic 83 bytes
  i ← only_byte misread.Magic 73 s.1
  l ← only_byte misread.Magic 76 i.1
  m ← only_byte misread.Magic 77 l.1
  version ← byte_at m.1
  numbered version

-- nothing is left behind the value
abbrev pub ended : {A : Type 0} → A × List ℕ → Result A Misread
ended x = if length x.1 == 0 then Ok x.0 else Err (misread.Trailing (length x.1))

-- an image in bytes, and no byte behind it
unfoldable pub byte_image_at : List ℕ → Result Image Misread
byte_image_at bytes = image_at at_bytes word_at bytes >>= ended

-- what is left behind zeros up to the end of the byte
abbrev pub padding_at : List ℕ → Result (List ℕ) Misread
padding_at bits =
    if list_all (λ bit. bit == 0) (take (length bits % 8) bits) then Ok (drop (length bits % 8) bits) else refused bits

-- an image in bits, and nothing behind them but zeros to the end of the byte
unfoldable pub bit_image_at : List ℕ → Result Image Misread
bit_image_at bits = do
  image ← image_at at_bits packed_word_at bits
  rest ← padding_at image.1
  ended (image.0, rest)

-- what was read in bits, or why not, in bytes
abbrev pub byte_placed : {A : Type 0} → Result A Misread → Result A Misread
byte_placed (Ok x) = Ok x
byte_placed (Err misread) = Err (byte_misread misread)

-- the image behind the version
abbrev pub image_behind : Version × List ℕ → Result Image Misread
image_behind (One, rest) = byte_image_at rest
image_behind (Two, rest) = byte_placed (bit_image_at (bits_of rest))

-- an image in either version
unfoldable pub whole_at : List ℕ → Result Image Misread
whole_at bytes = head_at bytes >>= image_behind
