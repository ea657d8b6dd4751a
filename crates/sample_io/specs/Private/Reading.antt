-- What a reader knows of a sample file after the bytes that it has taken.
use Rattle.std.specs.Prelude.{◌≡◌, ℕ, ◌+◌, ◌*◌, ◌<◌, ◌^◌, List, [], ◌∷◌, ◌++◌, length, Bool, ℤ, Option, Some, None}
use Rattle.std.specs.Prelude.{Result, Ok, Err, MatchOption}
use Rattle.std.specs.Char.{digit_value}
use Rattle.lists.specs.Rows.{Rows}
use Rattle.sample_io.specs.declared.RowFault.{RowFault}
use Rattle.sample_io.specs.declared.channel.Channel.{Channel}
use Rattle.sample_io.specs.declared.read.LineState.{LineState}
use Rattle.sample_io.specs.declared.read.Part.TheVariants.{Empty}
use Rattle.sample_io.specs.declared.read.Progress.{Progress}
use Rattle.sample_io.specs.declared.read.Progress.TheVariants.{Within, Word, Row}
use Rattle.sample_io.specs.declared.read.Reader.{Reader}
use Rattle.sample_io.specs.Private.Begun.{LineSoFar, ReadSoFar}
use Rattle.sample_io.specs.Channels.{IsInChannel}
use Rattle.sample_io.specs.Samples.{signed, RowText, IsLine, Lines, LacksLastEnd, BeginsRow, StopsAfter}

-- some line has led to this state
abbrev pub IsLineState : List Channel → LineState → Type 0
IsLineState channels state = (line : List ℕ) × (words : List ℤ) × LineSoFar channels line words state

-- with one digit more the word is in the channel
abbrev pub HasDigit : Channel → Bool → ℕ → ℕ → Type 0
HasDigit channel negative magnitude byte =
    (digit_value byte < 10) × IsInChannel channel (signed negative (magnitude * 10 + digit_value byte))

-- The line goes on with the byte, within a word or with a word that is whole; or it ends as a row; or it begins no row.
abbrev pub TakesByte : List Channel → List ℕ → List ℤ → ℕ → Option Progress → LineState → Type 0
TakesByte channels line words byte (Some Within) new = LineSoFar channels (line ++ byte ∷ []) words new
TakesByte channels line words byte (Some (Word word)) new =
    LineSoFar channels (line ++ byte ∷ []) (words ++ word ∷ []) new
TakesByte channels line words byte (Some (Row word)) new =
    IsLine channels (line ++ byte ∷ []) (words ++ word ∷ []) × (new ≡ record { column = 0; part = Empty })
TakesByte channels line words byte None new = BeginsRow channels (line ++ byte ∷ []) → ⊥

-- so it is for each line that has led to the state
abbrev pub Takes : List Channel → LineState → ℕ → Option Progress → LineState → Type 0
Takes channels old byte result new =
    (line : List ℕ) (words : List ℤ) → LineSoFar channels line words old → TakesByte channels line words byte result new

-- each line that has led to the state is a row's text with this last word, or it is no row's text
abbrev pub EndsWith : List Channel → LineState → Option ℤ → Type 0
EndsWith channels state last = (line : List ℕ) (words : List ℤ) → LineSoFar channels line words state
    → MatchOption last ((row : List ℤ) → RowText channels line row → ⊥)
    (λ word. RowText channels line (words ++ word ∷ []))

-- fewer bytes than there are addresses have led to this reader
abbrev pub IsReader : List Channel → Reader → Type 0
IsReader channels reader =
    (bytes : List ℕ) × (rows : Rows) × (words : List ℤ)
    × (length bytes < 2 ^ 63) × ReadSoFar channels bytes rows words reader

-- The byte was taken, within a word, or as the end of a word or of a line; or it is the first bad place, whatever comes
-- after it.
abbrev pub ReadsByte : List Channel → List ℕ → Rows → List ℤ → ℕ → Result Progress RowFault → Reader → Type 0
ReadsByte channels bytes rows words byte (Ok Within) new = ReadSoFar channels (bytes ++ byte ∷ []) rows words new
ReadsByte channels bytes rows words byte (Ok (Word word)) new =
    ReadSoFar channels (bytes ++ byte ∷ []) rows (words ++ word ∷ []) new
ReadsByte channels bytes rows words byte (Ok (Row word)) new =
    Lines (bytes ++ byte ∷ []) channels (rows ++ (words ++ word ∷ []) ∷ [])
    × ReadSoFar channels (bytes ++ byte ∷ []) (rows ++ (words ++ word ∷ []) ∷ []) [] new
ReadsByte channels bytes rows words byte (Err fault) new =
    (more : List ℕ) → StopsAfter channels (bytes ++ byte ∷ more) rows fault

-- so it is for all bytes that have led to the reader
abbrev pub Reads : List Channel → Reader → ℕ → Result Progress RowFault → Reader → Type 0
Reads channels old byte result new =
    (bytes : List ℕ) (rows : Rows) (words : List ℤ) → ReadSoFar channels bytes rows words old
    → ReadsByte channels bytes rows words byte result new

-- no line is begun; or the line begun is the text of a row with this last word; or the end of input is the first
-- bad place
abbrev pub ReadsEnd : List Channel → List ℕ → Rows → List ℤ → Result (Option ℤ) RowFault → Type 0
ReadsEnd channels bytes rows words (Ok None) = Lines bytes channels rows × (words ≡ [])
ReadsEnd channels bytes rows words (Ok (Some word)) = LacksLastEnd bytes channels (rows ++ (words ++ word ∷ []) ∷ [])
ReadsEnd channels bytes rows words (Err fault) = StopsAfter channels bytes rows fault

-- so it is for all bytes that have led to the reader
abbrev pub Ends : List Channel → Reader → Result (Option ℤ) RowFault → Type 0
Ends channels reader result =
    (bytes : List ℕ) (rows : Rows) (words : List ℤ) → ReadSoFar channels bytes rows words reader
    → ReadsEnd channels bytes rows words result
