-- What rows that come in pieces have taken: lines, and a line begun.
use Rattle.std.proofs.Common.{◌≡◌, ◌≤◌, ℕ, List, [], ◌∷◌, ◌++◌, length, ap, sym, ◌∙◌, subst, append_assoc, inl}
use Rattle.lists.specs.Rows.{Rows as Stream}
use Rattle.sample_io.specs.declared.RowFault.{RowFault}
use Rattle.sample_io.specs.declared.channel.Channel.{Channel}
use Rattle.sample_io.specs.Channels.{AreChannels}
use Rattle.sample_io.specs.FedRows.{FedRows}
use Rattle.sample_io.specs.Pieces.{AreLinesSoFar, HasTaken}
use Rattle.sample_io.specs.Samples.{Lines, IsFirstBadPlace, StopsAfter}
use Rattle.sample_io.proofs.Files.{Lines-push}
use Rattle.sample_io.proofs.Streams.{RowsOf-no_bad_place, lines_at_front}

-- lines at the front of the bytes are no more than the rows
pub taken_lines : (rows : FedRows) (bytes : List ℕ) (before : Stream)
    → HasTaken rows bytes before
    → (front rest : List ℕ) (some : Stream)
    → bytes ≡ front ++ rest
    → Lines front rows.channels some
    → length some ≤ length before
taken_lines rows bytes before h front rest some e lines =
    let so = h.so_far in
    lines_at_front rows.channels h.sound front rest so.front so.line some before (sym e ∙ so.bytes_are) lines so.before
    so.unended

-- no front of lines and a line begun has a first bad place, whatever comes after it
pub so_far_sound : (channels : List Channel)
    → AreChannels channels
    → (bytes : List ℕ) (before : Stream)
    → AreLinesSoFar channels bytes before
    → (front rest : List ℕ) (some : Stream) (fault : RowFault)
    → bytes ≡ front ++ rest
    → ((more : List ℕ) → StopsAfter channels (front ++ more) some fault)
    → ⊥
so_far_sound channels are bytes before so front rest some fault e stops =
    let (more, row, line) = so.begins in
    let whole = Lines-push so.front channels before (so.line ++ more) row so.before line in
    let all : front ++ (rest ++ more) ≡ so.front ++ (so.line ++ more) =
    sym (append_assoc front rest more) ∙ ap (λ b. b ++ more) (sym e ∙ so.bytes_are)
    ∙ append_assoc so.front so.line more in
    RowsOf-no_bad_place (so.front ++ (so.line ++ more)) channels (before ++ row ∷ []) fault are (inl whole)
    (subst (λ b. IsFirstBadPlace b channels fault) all (stops (rest ++ more)).0)

-- nor has a front of bytes that were taken
pub taken_sound : (rows : FedRows) (bytes : List ℕ) (before : Stream)
    → HasTaken rows bytes before
    → (front rest : List ℕ) (some : Stream) (fault : RowFault)
    → bytes ≡ front ++ rest
    → ((more : List ℕ) → StopsAfter rows.channels (front ++ more) some fault)
    → ⊥
taken_sound rows bytes before h = so_far_sound rows.channels h.sound bytes before h.so_far
