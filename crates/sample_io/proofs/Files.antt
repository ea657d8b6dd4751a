-- One byte more of a file, and its end.
use Rattle.std.proofs.Common.{◌≡◌, ℕ, ◌+◌, ◌<◌, ◌≤◌, Bool, List, [], ◌∷◌, ◌++◌, length, take, Contains, ℤ, Some, Ok}
use Rattle.std.proofs.Common.{refl, ap, sym, ◌∙◌, subst, append_assoc, arith, inl, inr}
use Rattle.std.specs.List.{flat_map}
use Rattle.std.proofs.lemmas.List.{append-nil, length-append, nil_from_length}
use Rattle.std.proofs.Math.Seq.{take-append_seam, take-append-add, take-length}
use Rattle.sample_io.specs.declared.channel.Channel.{Channel}
use Rattle.sample_io.specs.declared.read.LineState.{LineState}
use Rattle.sample_io.specs.declared.read.Part.TheVariants.{Empty, Digits}
use Rattle.sample_io.specs.declared.read.Progress.{Progress}
use Rattle.sample_io.specs.declared.read.Progress.TheVariants.{Within, Word, Row}
use Rattle.sample_io.specs.declared.read.Reader.{Reader}
use Rattle.sample_io.specs.Channels.{AreChannels}
use Rattle.sample_io.specs.Private.Begun.{LineSoFar, ReadSoFar, with_comma, IsPart}
use Rattle.sample_io.specs.Samples.{AreWords, no_words, one_more, RowText, IsLine, Lines, LacksLastEnd, BeginsRow}
use Rattle.sample_io.specs.Samples.{IsFirstBadPlace, StopsAfter, signed}
use Rattle.sample_io.specs.Private.Reading.{TakesByte, ReadsByte}
use Rattle.sample_io.proofs.Bytes.{word_of_digits, last_text, left_length}
use Rattle.sample_io.proofs.Machine.{At}
use Rattle.sample_io.proofs.Texts.{so_far_begins}
use Rattle.sample_io.proofs.Runs.{so_far_run, text_run}

-- no byte yet
fresh : (channels : List Channel)
    → AreChannels channels
    → LineSoFar channels [] [] (record { column = 0; part = Empty })
fresh [] are = absurd (omega (arith, are.some))
fresh (channel ∷ channels) are = record {
  done = [];
  channel = channel;
  left = channels;
  channels_are = refl;
  column = refl;
  texts = [];
  text = [];
  line_is = refl;
  whole = no_words;
  part = refl;
  unended = λ has. omega (arith, has.1);
}

-- no byte of the file yet
pub nothing_read : (channels : List Channel)
    → AreChannels channels
    → (reader : Reader)
    → reader ≡ record { line = 1; at = 0; state = record { column = 0; part = Empty } }
    → ReadSoFar channels [] [] [] reader
nothing_read channels are reader is = record {
  front = [];
  line = [];
  bytes_are = refl;
  before = refl;
  so_far = subst (λ (r : Reader). LineSoFar channels [] [] r.state) (sym is) (fresh channels are);
  number = ap (λ (r : Reader). r.line) is;
  at = ap (λ (r : Reader). r.at) is;
}

-- a line has one byte at least
pub line_some : (channels : List Channel) (line : List ℕ) (row : List ℤ) → IsLine channels line row → 0 < length line
line_some channels line row h =
    let all = ap length h.line_is ∙ length-append h.text h.end in
    elim h.line_end [ inl lf ↦ omega (arith, all, ap length lf) | inr crlf ↦ omega (arith, all, ap length crlf) ]

lines_few : (bytes : List ℕ) (channels : List Channel) (rows : List (List ℤ))
    → Lines bytes channels rows
    → length rows ≤ length bytes
lines_few bytes channels [] h = omega arith
lines_few bytes channels (row ∷ rows) h =
    let all = ap length h.2 ∙ length-append h.0 h.1 in
    omega (arith, all, line_some channels h.0 row h.3, lines_few h.1 channels rows h.4)

-- a reader's numbers are no greater than what was read
pub record Small (bytes : List ℕ) (reader : Reader) : Type 0 where
  pub line : reader.line ≤ length bytes + 1
  pub at : reader.at ≤ length bytes

pub small : (channels : List Channel) (bytes : List ℕ) (rows : List (List ℤ)) (words : List ℤ) (reader : Reader)
    → ReadSoFar channels bytes rows words reader
    → Small bytes reader
small channels bytes rows words reader h =
    let all = ap length h.bytes_are ∙ length-append h.front h.line in
    record {
      line = omega (arith, all, lines_few h.front channels rows h.before, h.number);
      at = omega (arith, all, h.at);
    }

pub Lines-push : (bytes : List ℕ) (channels : List Channel) (rows : List (List ℤ)) (line : List ℕ) (row : List ℤ)
    → Lines bytes channels rows
    → IsLine channels line row
    → Lines (bytes ++ line) channels (rows ++ row ∷ [])
Lines-push bytes channels [] line row h is = (line, [], ap (λ b. b ++ line) h ∙ sym (append-nil line), is, refl)
Lines-push bytes channels (first ∷ rows) line row h is = (
  h.0,
  h.1 ++ line,
  ap (λ b. b ++ line) h.2 ∙ append_assoc h.0 h.1 line,
  h.3,
  Lines-push h.1 channels rows line row h.4 is,
)

-- the byte goes on with the line
goes_on :
    (channels : List Channel) (bytes : List ℕ) (rows : List (List ℤ)) (words : List ℤ) (reader new : Reader)
    (h : ReadSoFar channels bytes rows words reader) (byte : ℕ) (more : List ℤ)
    → LineSoFar channels (h.line ++ byte ∷ []) more new.state
    → new.line ≡ reader.line
    → new.at ≡ reader.at + 1
    → ReadSoFar channels (bytes ++ byte ∷ []) rows more new
goes_on channels bytes rows words reader new h byte more now line at = record {
  front = h.front;
  line = h.line ++ byte ∷ [];
  bytes_are = ap (λ b. b ++ byte ∷ []) h.bytes_are ∙ append_assoc h.front h.line (byte ∷ []);
  before = h.before;
  so_far = now;
  number = line ∙ h.number;
  at = at ∙ ap (λ n. n + 1) h.at ∙ sym (length-append h.line (byte ∷ []));
}

-- the byte ends the line as a row
ends_line : (channels : List Channel)
    → AreChannels channels
    → (bytes : List ℕ) (rows : List (List ℤ)) (words : List ℤ) (reader new : Reader)
    (h : ReadSoFar channels bytes rows words reader) (byte : ℕ) (row : List ℤ)
    → IsLine channels (h.line ++ byte ∷ []) row
    → new.line ≡ reader.line + 1
    → new.at ≡ 0
    → new.state ≡ record { column = 0; part = Empty }
    → Lines (bytes ++ byte ∷ []) channels (rows ++ row ∷ [])
    × ReadSoFar channels (bytes ++ byte ∷ []) (rows ++ row ∷ []) [] new
ends_line channels are bytes rows words reader new h byte row is line at state =
    let all : bytes ++ byte ∷ [] ≡ h.front ++ (h.line ++ byte ∷ []) =
    ap (λ b. b ++ byte ∷ []) h.bytes_are ∙ append_assoc h.front h.line (byte ∷ []) in
    let lines = Lines-push h.front channels rows (h.line ++ byte ∷ []) row h.before is in (
      subst (λ b. Lines b channels (rows ++ row ∷ [])) (sym all) lines,
      record {
        front = h.front ++ (h.line ++ byte ∷ []);
        line = [];
        bytes_are = all ∙ sym (append-nil (h.front ++ (h.line ++ byte ∷ [])));
        before = lines;
        so_far = subst (LineSoFar channels [] []) (sym state) (fresh channels are);
        number = line ∙ ap (λ n. n + 1) (h.number ∙ sym (length-append rows (row ∷ [])));
        at = at;
      },
    )

-- the byte begins no row, whatever comes behind it
pub bad_byte : (channels : List Channel)
    → AreChannels channels
    → (bytes : List ℕ) (rows : List (List ℤ)) (words : List ℤ) (reader : Reader)
    (h : ReadSoFar channels bytes rows words reader) (byte : ℕ)
    → (BeginsRow channels (h.line ++ byte ∷ []) → ⊥)
    → (more : List ℕ)
    → StopsAfter channels (bytes ++ byte ∷ more) rows (record { line = reader.line; at = reader.at })
bad_byte channels are bytes rows words reader h byte none more =
    let rest = h.line ++ byte ∷ more in
    let front_is : take reader.at rest ≡ h.line = ap (λ n. take n rest) h.at ∙ take-append_seam h.line (byte ∷ more) in
    let next_is : take (reader.at + 1) rest ≡ h.line ++ byte ∷ [] =
    ap (λ n. take (n + 1) rest) h.at ∙ take-append-add h.line (byte ∷ more) 1 in
    let bad : IsFirstBadPlace (bytes ++ byte ∷ more) channels (record { line = reader.line; at = reader.at }) = record {
      rows = rows;
      front = h.front;
      rest = rest;
      bytes_are = ap (λ b. b ++ byte ∷ more) h.bytes_are ∙ append_assoc h.front h.line (byte ∷ more);
      before = h.before;
      line = h.number;
      same_line = subst (λ l. Contains l 10 → ⊥) (sym front_is) h.so_far.unended;
      begins =
          subst (BeginsRow channels) (sym front_is) (so_far_begins channels are h.line words reader.state h.so_far);
      stops =
          inl
          (omega (arith, h.at, length-append h.line (byte ∷ more)), λ b. none (subst (BeginsRow channels) next_is b));
    } in
    (bad, refl)

-- the input ends within a line that is no row
pub bad_end : (channels : List Channel)
    → AreChannels channels
    → (bytes : List ℕ) (rows : List (List ℤ)) (words : List ℤ) (reader : Reader)
    (h : ReadSoFar channels bytes rows words reader)
    → 0 < reader.at
    → ((row : List ℤ) → RowText channels h.line row → ⊥)
    → StopsAfter channels bytes rows (record { line = reader.line; at = reader.at })
bad_end channels are bytes rows words reader h some none =
    let front_is : take reader.at h.line ≡ h.line = ap (λ n. take n h.line) h.at ∙ take-length h.line in
    let bad : IsFirstBadPlace bytes channels (record { line = reader.line; at = reader.at }) = record {
      rows = rows;
      front = h.front;
      rest = h.line;
      bytes_are = h.bytes_are;
      before = h.before;
      line = h.number;
      same_line = subst (λ l. Contains l 10 → ⊥) (sym front_is) h.so_far.unended;
      begins =
          subst (BeginsRow channels) (sym front_is) (so_far_begins channels are h.line words reader.state h.so_far);
      stops = inr (h.at, some, none);
    } in
    (bad, refl)

-- a byte that ended a row
pub row_read : (channels : List Channel)
    → AreChannels channels
    → (bytes : List ℕ) (rows : List (List ℤ)) (words : List ℤ) (reader : Reader)
    (h : ReadSoFar channels bytes rows words reader) (byte : ℕ)
    → (progress : Progress) (word : ℤ) (state : LineState)
    → TakesByte channels h.line words byte (Some progress) state
    → progress ≡ Row word
    → ReadsByte channels bytes rows words byte (Ok progress) (record { line = reader.line + 1; at = 0; state = state })
row_read channels are bytes rows words reader h byte progress word state takes is =
    let ended : TakesByte channels h.line words byte (Some (Row word)) state =
    subst (λ p. TakesByte channels h.line words byte (Some p) state) is takes in
    let new : Reader = record { line = reader.line + 1; at = 0; state = state } in
    subst (λ p. ReadsByte channels bytes rows words byte (Ok p) new) (sym is)
    (ends_line channels are bytes rows words reader new h byte (words ++ word ∷ []) ended.0 refl refl ended.1)

-- a byte that ended none
pub byte_read :
    (channels : List Channel) (bytes : List ℕ) (rows : List (List ℤ)) (words : List ℤ) (reader : Reader)
    (h : ReadSoFar channels bytes rows words reader) (byte : ℕ)
    → (progress : Progress) (state : LineState)
    → TakesByte channels h.line words byte (Some progress) state
    → ((word : ℤ) → progress ≡ Row word → ⊥)
    → ReadsByte channels bytes rows words byte (Ok progress)
    (record { line = reader.line; at = reader.at + 1; state = state })
byte_read channels bytes rows words reader h byte Within state takes no_row =
    goes_on channels bytes rows words reader (record { line = reader.line; at = reader.at + 1; state = state }) h byte
    words takes refl refl
byte_read channels bytes rows words reader h byte (Word word) state takes no_row =
    goes_on channels bytes rows words reader (record { line = reader.line; at = reader.at + 1; state = state }) h byte
    (words ++ word ∷ []) takes refl refl
byte_read channels bytes rows words reader h byte (Row word) state takes no_row = absurd (no_row word refl)

-- the line so far is a row's text where its last word is digits in the last column
pub is_text :
    (channels : List Channel) (line : List ℕ) (words : List ℤ) (state : LineState)
    (h : LineSoFar channels line words state) (negative : Bool) (magnitude : ℕ)
    → state.part ≡ Digits negative magnitude
    → length channels ≤ state.column + 1
    → RowText channels line (words ++ signed negative magnitude ∷ [])
is_text channels line words state h negative magnitude is last =
    let part : IsPart h.channel h.left h.text (Digits negative magnitude) =
    subst (IsPart h.channel h.left h.text) is h.part in
    let none : h.left ≡ [] = nil_from_length h.left (omega (arith, left_length channels line words state h, last)) in
    subst (λ l. RowText channels l (words ++ signed negative magnitude ∷ [])) (sym h.line_is)
    (last_text channels line words state h h.text (signed negative magnitude) none
    (word_of_digits h.channel h.left h.text negative magnitude part))

-- and only there
pub record EndsInDigits (channels : List Channel) (state : LineState) : Type 0 where
  pub negative : Bool
  pub magnitude : ℕ
  pub part_is : state.part ≡ Digits negative magnitude
  pub last : state.column + 1 ≡ length channels

pub only_text : (channels : List Channel)
    → AreChannels channels
    → (line : List ℕ) (words : List ℤ) (state : LineState)
    → LineSoFar channels line words state
    → (row : List ℤ)
    → RowText channels line row
    → EndsInDigits channels state
only_text channels are line words state h row text =
    let read = text_run channels are line row text in
    let same : Some (At words h.channel h.left state.part)
    ≡ Some (At read.words read.channel [] (Digits read.negative read.magnitude)) =
    sym (so_far_run channels are line words state h) ∙ read.led in
    let left : h.left ≡ [] = cc in
    record {
      negative = read.negative;
      magnitude = read.magnitude;
      part_is = cc;
      last = omega (arith, left_length channels line words state h, ap length left);
    }

-- no byte of a line was taken
no_texts : (done : List Channel) (texts : List (List ℕ)) (words : List ℤ) (text : List ℕ)
    → AreWords done texts words
    → length (flat_map with_comma texts ++ text) ≡ 0
    → words ≡ []
no_texts done texts words text no_words e = refl
no_texts done texts words text (one_more {text = first} {texts = others} here rest) e =
    absurd (omega (
      arith,
      e,
      length-append (with_comma first ++ flat_map with_comma others) text,
      length-append (with_comma first) (flat_map with_comma others),
      length-append first (44 ∷ []),
    ))

-- the end of input behind whole lines
pub end_of_lines : (channels : List Channel) (bytes : List ℕ) (rows : List (List ℤ)) (words : List ℤ) (reader : Reader)
    → ReadSoFar channels bytes rows words reader
    → reader.at ≡ 0
    → Lines bytes channels rows × (words ≡ [])
end_of_lines channels bytes rows words reader h e =
    let none : length h.line ≡ 0 = omega (arith, h.at, e) in
    let no_word : words ≡ [] =
    no_texts h.so_far.done h.so_far.texts words h.so_far.text h.so_far.whole
    (sym (ap length h.so_far.line_is) ∙ none) in
    let all : bytes ≡ h.front =
    h.bytes_are ∙ ap (λ l. h.front ++ l) (nil_from_length h.line none) ∙ append-nil h.front in
    (subst (λ b. Lines b channels rows) (sym all) h.before, no_word)

-- the end of input behind a row's text
pub end_of_text :
    (channels : List Channel) (bytes : List ℕ) (rows : List (List ℤ)) (words : List ℤ) (reader : Reader)
    (h : ReadSoFar channels bytes rows words reader) (word : ℤ)
    → RowText channels h.line (words ++ word ∷ [])
    → LacksLastEnd bytes channels (rows ++ (words ++ word ∷ []) ∷ [])
end_of_text channels bytes rows words reader h word text =
    record {
      front = h.front;
      text = h.line;
      before = rows;
      last = words ++ word ∷ [];
      bytes_are = h.bytes_are;
      rows_are = refl;
      lines = h.before;
      row_text = text;
    }
