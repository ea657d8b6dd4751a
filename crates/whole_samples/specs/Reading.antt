-- What a sample file has that is in memory whole.
use Rattle.std.specs.Prelude.{◌≡◌, ℕ, List, ℤ}
use Rattle.std.specs.List.{flat_map}
use Rattle.lists.specs.Rows.{Rows}
use Rattle.sample_io.specs.declared.channel.Channel.{Channel}
use Rattle.sample_io.specs.Samples.{RowsOf, IsFirstBadPlace}
use Rattle.whole_samples.specs.declared.reading.SamplesFault.{SamplesFault}
use Rattle.whole_samples.specs.declared.reading.SamplesFault.TheVariants.{Row, Memory}

-- the words of rows, row after row
abbrev pub words_of : Rows → List ℤ
words_of rows = flat_map (λ row. row) rows

module _ (channels : List Channel) (text : List ℕ) where
  -- the words are those of the rows of the text
  abbrev pub AreWordsOf : List ℤ → Type 0
  AreWordsOf words = (rows : Rows) × RowsOf text channels rows × (words ≡ words_of rows)

  -- the fault names the first bad place of the text, or there was no memory
  abbrev pub IsSamplesFault : SamplesFault → Type 0
  IsSamplesFault (Row place) = IsFirstBadPlace text channels place
  IsSamplesFault Memory = Unit {0}
