-- The text of a sample file: one row a line, a row's words in decimal with a comma between two of them.
use Rattle.std.specs.Prelude.{◌≡◌, ℕ, ◌+◌, ◌<◌, ◌⊎◌, Bool, if◌then◌else◌, ℤ, pos, neg_ℤ}
use Rattle.std.specs.Prelude.{List, [], ◌∷◌, ◌++◌, length, take, map, Contains}
use Rattle.std.specs.Fmt.{signed_decimal}
use Rattle.std.specs.List.{join_with_byte, flat_map}
use Rattle.std.specs.Str.Parse.{IsNumeral, digits_value}
use Rattle.lists.specs.Rows.{Rows}
use Rattle.sample_io.specs.declared.channel.Channel.{Channel}
use Rattle.sample_io.specs.declared.RowFault.{RowFault}
use Rattle.sample_io.specs.Channels.{IsInChannel}

-- the bytes other than digits that have a meaning
abbrev pub minus : ℕ
minus = 45

abbrev pub comma : ℕ
comma = 44

abbrev pub carriage_return : ℕ
carriage_return = 13

abbrev pub line_feed : ℕ
line_feed = 10

-- digits, after a minus or not
abbrev pub signed_text : Bool → List ℕ → List ℕ
signed_text negative digits = if negative then minus ∷ digits else digits

-- the number of this size, below zero or not
abbrev pub signed : Bool → ℕ → ℤ
signed negative magnitude = if negative then neg_ℤ (pos magnitude) else pos magnitude

-- an optional minus and one or more decimal digits write a word of the channel
pub record IsWord (channel : Channel) (text : List ℕ) (word : ℤ) : Type 0 where
  pub negative : Bool
  pub digits : List ℕ
  pub text_is : text ≡ signed_text negative digits
  pub numeral : IsNumeral 10 digits
  pub word_is : word ≡ signed negative (digits_value 10 digits)
  pub in_channel : IsInChannel channel word

-- each text writes the word at its position, of the channel at its position
pub data AreWords : List Channel → List (List ℕ) → List ℤ → Type 0 where
  no_words : AreWords [] [] []
  one_more : {channel : Channel} {channels : List Channel}
      → {text : List ℕ} {texts : List (List ℕ)}
      → {word : ℤ} {words : List ℤ}
      → IsWord channel text word
      → AreWords channels texts words
      → AreWords (channel ∷ channels) (text ∷ texts) (word ∷ words)

-- the words of the row in the order of the channels, with a comma between two of them
pub record RowText (channels : List Channel) (text : List ℕ) (row : List ℤ) : Type 0 where
  pub texts : List (List ℕ)
  pub text_is : text ≡ join_with_byte comma texts
  pub words : AreWords channels texts row

-- LF or CR LF ends a line
abbrev pub IsLineEnd : List ℕ → Type 0
IsLineEnd end = (end ≡ line_feed ∷ []) ⊎ (end ≡ carriage_return ∷ line_feed ∷ [])

-- a row's text and its end of line
pub record IsLine (channels : List Channel) (line : List ℕ) (row : List ℤ) : Type 0 where
  pub text : List ℕ
  pub end : List ℕ
  pub line_is : line ≡ text ++ end
  pub row_text : RowText channels text row
  pub line_end : IsLineEnd end

-- the lines of the rows, one after another
abbrev pub Lines : List ℕ → List Channel → Rows → Type 0
Lines bytes channels [] = bytes ≡ []
Lines bytes channels (row ∷ rows) =
    (line : List ℕ) × (rest : List ℕ) × (bytes ≡ line ++ rest) × IsLine channels line row × Lines rest channels rows

-- lines, and then the text of a last row, which lacks its end of line
pub record LacksLastEnd (bytes : List ℕ) (channels : List Channel) (rows : Rows) : Type 0 where
  pub front : List ℕ
  pub text : List ℕ
  pub before : Rows
  pub last : List ℤ
  pub bytes_are : bytes ≡ front ++ text
  pub rows_are : rows ≡ before ++ last ∷ []
  pub lines : Lines front channels before
  pub row_text : RowText channels text last

-- the bytes are the row texts of the stream, each with its end of line, which the last may lack
abbrev pub RowsOf : List ℕ → List Channel → Rows → Type 0
RowsOf bytes channels rows = Lines bytes channels rows ⊎ LacksLastEnd bytes channels rows

-- with some bytes more, these are a row's text and its end of line
abbrev pub BeginsRow : List Channel → List ℕ → Type 0
BeginsRow channels bytes = (more : List ℕ) × (row : List ℤ) × IsLine channels (bytes ++ more) row

-- with the byte at the place the bytes begin no row; or the input ends there, within a line that is no row
abbrev pub StopsAt : List Channel → List ℕ → ℕ → Type 0
StopsAt channels rest at = ((at < length rest) × (BeginsRow channels (take (at + 1) rest) → ⊥))
    ⊎ ((at ≡ length rest) × (0 < at) × ((row : List ℤ) → RowText channels rest row → ⊥))

-- The fault names the least line that is no row, and in it the first byte after which that line, with its end of line,
-- begins no row; at the end of input, the line's length.
pub record IsFirstBadPlace (bytes : List ℕ) (channels : List Channel) (fault : RowFault) : Type 0 where
  pub rows : Rows
  pub front : List ℕ
  pub rest : List ℕ
  pub bytes_are : bytes ≡ front ++ rest
  pub before : Lines front channels rows
  pub line : fault.line ≡ length rows + 1
  pub same_line : Contains (take fault.at rest) line_feed → ⊥
  pub begins : BeginsRow channels (take fault.at rest)
  pub stops : StopsAt channels rest fault.at

-- the fault names the first bad place of the bytes, and these are the rows of the lines before it
abbrev pub StopsAfter : List Channel → List ℕ → Rows → RowFault → Type 0
StopsAfter channels bytes rows fault = (bad : IsFirstBadPlace bytes channels fault) × (bad.rows ≡ rows)

-- a row as it is written: no leading zeros, `0` for zero, and LF at the end
abbrev pub printed_row : List ℤ → List ℕ
printed_row row = join_with_byte comma (map signed_decimal row) ++ line_feed ∷ []

-- a stream as it is written
abbrev pub printed : Rows → List ℕ
printed rows = flat_map printed_row rows
