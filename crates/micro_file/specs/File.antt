-- The whole file: the magic bytes, SILM, the version, and what the version has behind them.
use Rattle.std.specs.Prelude.{◌≡◌, ◌⊎◌, ℕ, ◌+◌, ◌<◌, ◌/◌, ◌%◌, List, [], length, replicate, Ok, Err}
use Rattle.micro_image.specs.declared.image.Image.{Image}
use Rattle.micro_image.specs.declared.version.Version.{Version}
use Rattle.micro_image.specs.declared.version.Version.TheVariants.{One, Two}
use Rattle.micro_image.specs.Bits.{in_bits}
use Rattle.micro_image.specs.Bytes.{one_byte, in_bytes}
use Rattle.micro_image.specs.Spells.{bits_of}
use Rattle.micro_file.specs.declared.misread.Misread.{Misread}
use Rattle.micro_file.specs.declared.misread.Misread.TheVariants as misread
use Rattle.micro_file.specs.Layout.{Layout, ◌>>=◌, field_or, field, placed}
use Rattle.micro_file.specs.Hardware.{Any, image}
use Rattle.micro_file.specs.Words.{own_bytes, word}
use Rattle.micro_file.specs.PackedWords.{own_bits, packed_word}

-- one byte of the magic
abbrev pub magic : ℕ → Layout ℕ
magic only = field_or one_byte (λ b. b ≡ only) (λ _. misread.Magic)

abbrev pub version_number : Version → ℕ
version_number One = 1
version_number Two = 2

-- the magic bytes and the version
unfoldable pub head : Layout Version
head = do
  s ← magic 83
  i ← magic 73
  l ← magic 76
  m ← magic 77
  field_or (λ version. one_byte (version_number version)) Any (λ _. misread.Version)

-- nothing is left behind the value
abbrev pub end : {A : Type 0} → A → Layout A
end x left (Ok y) = (y ≡ (x, left)) × (left ≡ [])
end x left (Err why) = (why ≡ misread.Trailing (length left)) × (0 < length left)

-- zeros up to the end of the byte
abbrev pub padding : Layout (Unit {0})
padding = placed (λ place. field (λ _. replicate (length place % 8) 0) Any)

-- an image in bytes, and no byte behind it
unfoldable pub byte_file : Layout Image
byte_file = image in_bytes own_bytes word >>= end

-- an image in bits, and nothing behind it but padding
unfoldable pub bit_file : Layout Image
bit_file = image in_bits own_bits packed_word >>= λ image. padding >>= λ _. end image

-- so many bits that are left begin in this many last bytes
abbrev pub bytes_of : ℕ → ℕ
bytes_of left = (left + 7) / 8

-- what is told of bits, in bytes
abbrev pub byte_misread : Misread → Misread
byte_misread (misread.Field left) = misread.Field (bytes_of left)
byte_misread (misread.Trailing left) = misread.Trailing (bytes_of left)
byte_misread other = other

-- what ends the reading of an image behind the version
abbrev pub StopsBehind : Version → List ℕ → Misread → Type 0
StopsBehind One rest why = byte_file rest (Err why)
StopsBehind Two rest why =
    (of_bits : Misread) × bit_file (bits_of rest) (Err of_bits) × (why ≡ byte_misread of_bits)

-- what ends the reading of a file
abbrev pub Stops : List ℕ → Misread → Type 0
Stops bytes why =
    head bytes (Err why)
    ⊎ ((version : Version) × (rest : List ℕ) × head bytes (Ok (version, rest)) × StopsBehind version rest why)
