-- A line that has begun, and the bytes up to there.
use Rattle.std.specs.Prelude.{◌≡◌, ℕ, ◌+◌, List, [], ◌∷◌, ◌++◌, length, Contains, ℤ}
use Rattle.std.specs.List.{flat_map}
use Rattle.std.specs.Str.Parse.{IsNumeral, digits_value}
use Rattle.lists.specs.Rows.{Rows}
use Rattle.sample_io.specs.declared.channel.Channel.{Channel}
use Rattle.sample_io.specs.declared.read.LineState.{LineState}
use Rattle.sample_io.specs.declared.read.Part.{Part}
use Rattle.sample_io.specs.declared.read.Part.TheVariants.{Empty, Minus, Digits, Return}
use Rattle.sample_io.specs.declared.read.Reader.{Reader}
use Rattle.sample_io.specs.Channels.{IsInChannel}
use Rattle.sample_io.specs.Samples.{minus, comma, carriage_return, line_feed, signed, signed_text, IsWord, AreWords}
use Rattle.sample_io.specs.Samples.{Lines}

-- the word's bytes so far, where `left` are the channels of the words after it
abbrev pub IsPart : Channel → List Channel → List ℕ → Part → Type 0
IsPart channel left text Empty = text ≡ []
IsPart channel left text Minus = text ≡ minus ∷ []
IsPart channel left text (Digits negative magnitude) =
    (digits : List ℕ) × (text ≡ signed_text negative digits) × IsNumeral 10 digits
    × (magnitude ≡ digits_value 10 digits) × IsInChannel channel (signed negative magnitude)
IsPart channel left text (Return word) =
    (whole : List ℕ) × (text ≡ whole ++ carriage_return ∷ []) × IsWord channel whole word × (left ≡ [])

-- a word's text and a comma
abbrev pub with_comma : List ℕ → List ℕ
with_comma text = text ++ comma ∷ []

-- the line so far: the texts of whole words, each with a comma, and what there is of the next word
pub record LineSoFar (channels : List Channel) (line : List ℕ) (words : List ℤ) (state : LineState) : Type 0 where
  pub done : List Channel
  pub channel : Channel
  pub left : List Channel
  pub channels_are : channels ≡ done ++ channel ∷ left
  pub column : state.column ≡ length done
  pub texts : List (List ℕ)
  pub text : List ℕ
  pub line_is : line ≡ flat_map with_comma texts ++ text
  pub whole : AreWords done texts words
  pub part : IsPart channel left text state.part
  pub unended : Contains line line_feed → ⊥

-- the bytes so far: the lines of the rows, and the line begun with its whole words
pub record ReadSoFar (channels : List Channel)
    (bytes : List ℕ) (rows : Rows) (words : List ℤ) (reader : Reader) : Type 0 where
  pub front : List ℕ
  pub line : List ℕ
  pub bytes_are : bytes ≡ front ++ line
  pub before : Lines front channels rows
  pub so_far : LineSoFar channels line words reader.state
  pub number : reader.line ≡ length rows + 1
  pub at : reader.at ≡ length line
