-- Bytes that are taken, one after another, by rows that come in pieces.
use Rattle.std.proofs.Common.{◌≡◌, ℕ, ◌+◌, ◌<◌, List, [], ◌∷◌, ◌++◌, length, take, drop, All, ℤ, Ok, Err, true, false}
use Rattle.std.proofs.Common.{Some, None, IsSome, refl, ap, sym, ◌∙◌, subst, append_assoc, arith, inl, inr, get_or, set}
use Rattle.std.proofs.lemmas.List.{length-append, length-set, length-take-le, take_all, take_more, take_more_set}
use Rattle.std.proofs.lemmas.List.{take-append-drop}
use Rattle.std.proofs.lemmas.List.Elements.{All-head, All-tail}
use Rattle.sample_io.specs.declared.RowFault.{RowFault}
use Rattle.sample_io.specs.declared.channel.Channel.{Channel}
use Rattle.sample_io.specs.declared.read.LineState.{LineState}
use Rattle.sample_io.specs.declared.read.Progress.TheVariants.{Within, Word, Row}
use Rattle.sample_io.specs.declared.read.Reader.{Reader}
use Rattle.sample_io.specs.Private.Begun.{LineSoFar, ReadSoFar}
use Rattle.sample_io.specs.Channels.{AreChannels, IsRow}
use Rattle.sample_io.specs.FedRows.{FedRows}
use Rattle.sample_io.specs.Pieces.{HasTaken, CanTake, MeetsFault}
use Rattle.sample_io.specs.Samples.{AreWords, no_words, one_more, Lines, LacksLastEnd, RowsOf, StopsAfter}
use Rattle.sample_io.specs.Private.Filling.{TakesNextByte, TakesSoFar}
use Rattle.sample_io.specs.Private.Places.{Kept, HasLed}
use Rattle.sample_io.specs.Private.Reading.{Reads, Ends}
use Rattle.sample_io.proofs.Bytes.{column_within}
use Rattle.sample_io.proofs.Lists.{row_length}
use Rattle.sample_io.proofs.Streams.{RowsOf-stream}

as_many_words : (channels : List Channel) (texts : List (List ℕ)) (words : List ℤ)
    → AreWords channels texts words
    → length words ≡ length channels
as_many_words channels texts words no_words = refl
as_many_words channels texts words (one_more {channels = cs} {texts = ts} {words = ws} here rest) =
    let same = as_many_words cs ts ws rest in omega (arith, same)

-- the word that comes has the column behind the words of the line that are whole
column_is : (channels : List Channel) (line : List ℕ) (words : List ℤ) (state : LineState)
    → LineSoFar channels line words state
    → length words ≡ state.column
column_is channels line words state h = as_many_words h.done h.texts words h.whole ∙ sym h.column

last_of_all : {X : Type 0} (P : X → Type 0) (xs : List X) (x : X) → All P (xs ++ x ∷ []) → P x
last_of_all P [] x all = All-head P x [] all
last_of_all P (first ∷ xs) x all = last_of_all P xs x (All-tail P first (xs ++ x ∷ []) all)

last_length : (bytes : List ℕ) (channels : List Channel) (before : List (List ℤ)) (row : List ℤ)
    → RowsOf bytes channels (before ++ row ∷ [])
    → length row ≡ length channels
last_length bytes channels before row h =
    row_length channels row
    (last_of_all (IsRow channels) before row (RowsOf-stream bytes channels (before ++ row ∷ []) h))

-- the words of the line begun and one more
filled : (old : Kept) (bytes : List ℕ) (before : List (List ℤ)) (word : ℤ) (h : HasLed old bytes before)
    → length old.begun ≡ length old.channels
    → take (length h.words + 1) (set old.begun old.reader.state.column word) ≡ h.words ++ word ∷ []
filled old bytes before word h places =
    let line = h.so_far in
    let column = column_is old.channels line.line h.words old.reader.state line.so_far in
    let within = column_within old.channels line.line h.words old.reader.state line.so_far in
    ap (λ n. take (n + 1) (set old.begun old.reader.state.column word)) column
    ∙ take_more_set old.begun old.reader.state.column word (omega (arith, within, places))
    ∙ ap (λ n. take n old.begun ++ word ∷ []) (sym column)
    ∙ ap (λ l. l ++ word ∷ []) h.begun

-- the word that ends a row fills it
filled_row : (old : Kept) (bytes : List ℕ) (before : List (List ℤ)) (word : ℤ) (h : HasLed old bytes before)
    → length old.begun ≡ length old.channels
    → length (h.words ++ word ∷ []) ≡ length old.channels
    → set old.begun old.reader.state.column word ≡ h.words ++ word ∷ []
filled_row old bytes before word h places whole =
    let all = length-set old.begun old.reader.state.column word in
    sym (take_all (length h.words + 1) (set old.begun old.reader.state.column word)
    (omega (arith, all, places, whole, length-append h.words (word ∷ []))))
    ∙ filled old bytes before word h places

-- no byte yet
pub none_led : (rows : Kept)
    → AreChannels rows.channels
    → rows.fault ≡ None
    → ReadSoFar rows.channels [] [] [] rows.reader
    → HasLed rows [] []
none_led rows sound running h = record { sound = sound; running = running; words = []; begun = refl; so_far = h }

-- a byte within a word
pub within_led : (old new : Kept) (byte : ℕ)
    → new.channels ≡ old.channels
    → new.fault ≡ old.fault
    → new.begun ≡ old.begun
    → Reads old.channels old.reader byte (Ok Within) new.reader
    → (bytes : List ℕ) (before : List (List ℤ))
    → HasLed old bytes before
    → HasLed new (bytes ++ byte ∷ []) before
within_led old new byte channels fault begun reads bytes before h = record {
  sound = subst AreChannels (sym channels) h.sound;
  running = fault ∙ h.running;
  words = h.words;
  begun = ap (take (length h.words)) begun ∙ h.begun;
  so_far =
      subst (λ c. ReadSoFar c (bytes ++ byte ∷ []) before h.words new.reader) (sym channels)
      (reads bytes before h.words h.so_far);
}

-- a byte that ends a word
pub word_led : (old new : Kept) (byte : ℕ) (word : ℤ)
    → new.channels ≡ old.channels
    → new.fault ≡ old.fault
    → new.begun ≡ set old.begun old.reader.state.column word
    → length old.begun ≡ length old.channels
    → Reads old.channels old.reader byte (Ok (Word word)) new.reader
    → (bytes : List ℕ) (before : List (List ℤ))
    → HasLed old bytes before
    → HasLed new (bytes ++ byte ∷ []) before
word_led old new byte word channels fault begun places reads bytes before h = record {
  sound = subst AreChannels (sym channels) h.sound;
  running = fault ∙ h.running;
  words = h.words ++ word ∷ [];
  begun = ap (take (length (h.words ++ word ∷ []))) begun
      ∙ ap (λ n. take n (set old.begun old.reader.state.column word)) (length-append h.words (word ∷ []))
      ∙ filled old bytes before word h places;
  so_far =
      subst (λ c. ReadSoFar c (bytes ++ byte ∷ []) before (h.words ++ word ∷ []) new.reader) (sym channels)
      (reads bytes before h.words h.so_far);
}

-- a byte that ends a row
pub row_led : (old new : Kept) (byte : ℕ) (word : ℤ)
    → new.channels ≡ old.channels
    → new.fault ≡ old.fault
    → new.row ≡ set old.begun old.reader.state.column word
    → length old.begun ≡ length old.channels
    → Reads old.channels old.reader byte (Ok (Row word)) new.reader
    → (bytes : List ℕ) (before : List (List ℤ))
    → HasLed old bytes before
    → Lines (bytes ++ byte ∷ []) old.channels (before ++ new.row ∷ [])
    × HasLed new (bytes ++ byte ∷ []) (before ++ new.row ∷ [])
row_led old new byte word channels fault row places reads bytes before h =
    let read = reads bytes before h.words h.so_far in
    let whole = last_length (bytes ++ byte ∷ []) old.channels before (h.words ++ word ∷ []) (inl read.0) in
    let is : new.row ≡ h.words ++ word ∷ [] = row ∙ filled_row old bytes before word h places whole in (
      subst (λ r. Lines (bytes ++ byte ∷ []) old.channels (before ++ r ∷ [])) (sym is) read.0,
      record {
        sound = subst AreChannels (sym channels) h.sound;
        running = fault ∙ h.running;
        words = [];
        begun = refl;
        so_far = subst (λ c. ReadSoFar c (bytes ++ byte ∷ []) (before ++ new.row ∷ []) [] new.reader) (sym channels)
            (subst (λ r. ReadSoFar old.channels (bytes ++ byte ∷ []) (before ++ r ∷ []) [] new.reader) (sym is) read.1);
      },
    )

-- the first bad byte
pub fault_met : (old : Kept) (byte : ℕ) (fault : RowFault) (new : Reader)
    → Reads old.channels old.reader byte (Err fault) new
    → (bytes : List ℕ) (before : List (List ℤ))
    → HasLed old bytes before
    → (more : List ℕ)
    → StopsAfter old.channels ((bytes ++ byte ∷ []) ++ more) before fault
fault_met old byte fault new reads bytes before h more =
    subst (λ b. StopsAfter old.channels b before fault) (sym (append_assoc bytes (byte ∷ []) more))
    (reads bytes before h.words h.so_far more)

-- the end of input behind the text of a row
pub row_ended : (old : Kept) (row : List ℤ) (word : ℤ)
    → row ≡ set old.begun old.reader.state.column word
    → length old.begun ≡ length old.channels
    → Ends old.channels old.reader (Ok (Some word))
    → (bytes : List ℕ) (before : List (List ℤ))
    → HasLed old bytes before
    → LacksLastEnd bytes old.channels (before ++ row ∷ [])
row_ended old row word row_is places ends bytes before h =
    let read = ends bytes before h.words h.so_far in
    let whole = last_length bytes old.channels before (h.words ++ word ∷ []) (inr read) in
    subst (λ r. LacksLastEnd bytes old.channels (before ++ r ∷ []))
    (sym (row_is ∙ filled_row old bytes before word h places whole)) read

-- room for a piece is room for its next byte
pub room_left : (old new : FedRows) (piece : List ℕ) (i : ℕ)
    → CanTake old (length piece)
    → old.fault ≡ None
    → i < length piece
    → TakesSoFar old (take i piece) new
    → CanTake new 1
room_left old new piece i (inl kept) running within sofar =
    let none : IsSome {T = RowFault} None = subst IsSome running kept in absurd (cc)
room_left old new piece i (inr (bytes, before, h, few)) running within sofar =
    let size = length-append bytes (take i piece) in
    let taken : length (take i piece) ≡ i = length-take-le i piece (omega (arith, within)) in
    inr (bytes ++ take i piece, before, sofar.taken bytes before h, omega (arith, size, taken, few, within))

next_of : (bytes piece : List ℕ) (i : ℕ)
    → i < length piece
    → (bytes ++ take i piece) ++ get_or piece i 0 ∷ [] ≡ bytes ++ take (i + 1) piece
next_of bytes piece i within =
    append_assoc bytes (take i piece) (get_or piece i 0 ∷ []) ∙ ap (λ l. bytes ++ l) (sym (take_more piece i 0 within))

-- a byte more of the piece, which ended no row
pub more_taken : (old mid new : FedRows) (piece : List ℕ) (i : ℕ)
    → i < length piece
    → TakesSoFar old (take i piece) mid
    → new.channels ≡ mid.channels
    → new.fault ≡ None
    → TakesNextByte mid (get_or piece i 0) new false
    → TakesSoFar old (take (i + 1) piece) new
more_taken old mid new piece i within sofar channels running takes = record {
  channels = channels ∙ sofar.channels;
  row = takes.0 ∙ sofar.row;
  running = running;
  taken = λ bytes before h.
      subst (λ b. HasTaken new b before) (next_of bytes piece i within)
      (takes.1 (bytes ++ take i piece) before (sofar.taken bytes before h));
}

-- and one that ended a row
pub row_found : (old mid new : FedRows) (piece : List ℕ) (i : ℕ)
    → i < length piece
    → TakesSoFar old (take i piece) mid
    → TakesNextByte mid (get_or piece i 0) new true
    → (bytes : List ℕ) (before : List (List ℤ))
    → HasTaken old bytes before
    → Lines (bytes ++ take (i + 1) piece) old.channels (before ++ new.row ∷ [])
    × HasTaken new (bytes ++ take (i + 1) piece) (before ++ new.row ∷ [])
row_found old mid new piece i within sofar takes bytes before h =
    let found = takes (bytes ++ take i piece) before (sofar.taken bytes before h) in
    let next = next_of bytes piece i within in (
      subst (λ b. Lines b old.channels (before ++ new.row ∷ [])) next
          (subst (λ c. Lines ((bytes ++ take i piece) ++ get_or piece i 0 ∷ []) c (before ++ new.row ∷ []))
          sofar.channels
          found.0),
      subst (λ b. HasTaken new b (before ++ new.row ∷ [])) next found.1,
    )

-- and one that is bad
pub fault_found : (old mid : FedRows) (piece : List ℕ) (i : ℕ) (fault : RowFault)
    → i < length piece
    → TakesSoFar old (take i piece) mid
    → MeetsFault mid (get_or piece i 0 ∷ []) fault
    → MeetsFault old piece fault
fault_found old mid piece i fault within sofar meets bytes before h more =
    let stops = meets (bytes ++ take i piece) before (sofar.taken bytes before h) (drop (i + 1) piece ++ more) in
    let piece_is : take (i + 1) piece ++ drop (i + 1) piece ≡ piece = take-append-drop (i + 1) piece in
    let all : ((bytes ++ take i piece) ++ get_or piece i 0 ∷ []) ++ (drop (i + 1) piece ++ more)
    ≡ (bytes ++ piece) ++ more =
    ap (λ b. b ++ (drop (i + 1) piece ++ more)) (next_of bytes piece i within)
    ∙ append_assoc bytes (take (i + 1) piece) (drop (i + 1) piece ++ more)
    ∙ ap (λ l. bytes ++ l)
    (sym (append_assoc (take (i + 1) piece) (drop (i + 1) piece) more) ∙ ap (λ l. l ++ more) piece_is)
    ∙ sym (append_assoc bytes piece more) in
    subst (λ c. StopsAfter c ((bytes ++ piece) ++ more) before fault) sofar.channels
    (subst (λ b. StopsAfter mid.channels b before fault) all stops)
