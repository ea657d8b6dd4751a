-- What lies in rows that come in pieces.
use Rattle.std.specs.Prelude.{◌≡◌, ℕ, List, length, take, ℤ, Option, None}
use Rattle.lists.specs.Rows.{Rows as Stream}
use Rattle.sample_io.specs.declared.RowFault.{RowFault}
use Rattle.sample_io.specs.declared.channel.Channel.{Channel}
use Rattle.sample_io.specs.declared.read.Reader.{Reader}
use Rattle.sample_io.specs.Channels.{AreChannels}
use Rattle.sample_io.specs.FedRows.{FedRows}
use Rattle.sample_io.specs.Private.Begun.{ReadSoFar}

pub record Kept : Type 0 where
  pub channels : List Channel
  pub row : List ℤ
  pub fault : Option RowFault
  -- the line begun, and the words of it that are whole
  pub reader : Reader
  pub begun : List ℤ

abbrev pub kept_of : List Channel → List ℤ → Option RowFault → Reader → List ℤ → Kept
kept_of channels row fault reader begun =
    record { channels = channels; row = row; fault = fault; reader = reader; begun = begun }

-- what callers see of it
abbrev pub fed_rows : Kept → List ℕ → FedRows
fed_rows kept taken =
    record { channels = kept.channels; taken = taken; row = kept.row; fault = kept.fault }

-- these bytes have led to what is kept: the lines of these rows, and the line begun with its whole words
pub record HasLed (kept : Kept) (bytes : List ℕ) (before : Stream) : Type 0 where
  pub sound : AreChannels kept.channels
  pub running : kept.fault ≡ None
  pub words : List ℤ
  pub begun : take (length words) kept.begun ≡ words
  pub so_far : ReadSoFar kept.channels bytes before words kept.reader

-- There is a place for each word of the row that is shown, and one for each word of the line begun. Without a fault the
-- bytes that were taken have led here.
pub record AreFed (kept : Kept) (taken : List ℕ) : Type 0 where
  pub sound : AreChannels kept.channels
  pub shown : length kept.row ≡ length kept.channels
  pub filled : length kept.begun ≡ length kept.channels
  pub led : kept.fault ≡ None → (before : Stream) × HasLed kept taken before
