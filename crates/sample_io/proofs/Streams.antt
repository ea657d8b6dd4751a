-- A file has one stream of rows at most, or one first bad place; and a printed stream is read again.
use Rattle.std.proofs.Common.{◌≡◌, ℕ, suc, ◌+◌, ◌-◌, ◌<◌, ◌≤◌, Bool, true, false, List, [], ◌∷◌, ◌++◌, length, take}
use Rattle.std.proofs.Common.{drop, map, Contains, All, ℤ, pos, negsuc, neg_ℤ, Some, None, refl, ap, sym, ◌∙◌, take-add}
use Rattle.std.proofs.Common.{subst, append_assoc, arith, inl, inr, ⊎_elim, ◌⊎◌, get_or}
use Rattle.std.specs.Fmt.{signed_decimal, decimal}
use Rattle.std.specs.List.{join_with_byte}
use Rattle.std.specs.Option.{option_and_then}
use Rattle.std.proofs.lemmas.Bool.{cases_lt, cases_order}
use Rattle.std.proofs.lemmas.Fmt.{decimal_is_IsNumeral}
use Rattle.std.proofs.lemmas.Int.{ints}
use Rattle.std.proofs.lemmas.List.{append-nil, length-append, take-append-le, take-append-drop}
use Rattle.std.proofs.lemmas.List.Elements.{All-head, All-tail, All-nil, All-cons, All-append, Contains-append_left}
use Rattle.std.proofs.lemmas.List.Elements.{Contains-append_right}
use Rattle.std.proofs.Math.Seq.{take-append-add}
use Rattle.sample_io.specs.declared.RowFault.{RowFault}
use Rattle.sample_io.specs.declared.channel.Channel.{Channel}
use Rattle.sample_io.specs.declared.read.Part.TheVariants.{Empty, Digits}
use Rattle.sample_io.specs.Channels.{IsInChannel, IsChannel, AreChannels, IsRow, IsStream}
use Rattle.sample_io.specs.Samples.{signed, IsWord, AreWords, no_words, one_more, RowText, IsLine, Lines, RowsOf}
use Rattle.sample_io.specs.Samples.{BeginsRow, StopsAt, IsFirstBadPlace, printed, printed_row}
use Rattle.sample_io.proofs.Files.{line_some}
use Rattle.sample_io.proofs.Machine.{Reached, At, Ended, step, run, run_line, run_line_on}
use Rattle.sample_io.proofs.Runs.{text_run, line_run}

-- of the beginnings of a text one at most is a whole line
same_end : (reached : Reached) (xs ys us vs : List ℕ) (row other : List ℤ)
    → run reached xs ≡ Some (Ended row)
    → run reached ys ≡ Some (Ended other)
    → xs ++ us ≡ ys ++ vs
    → (xs ≡ ys) × (us ≡ vs) × (row ≡ other)
same_end reached [] [] us vs row other p q e = (refl, e, cc)
same_end reached [] (y ∷ ys) us vs row other p q e =
    let ended : reached ≡ Ended row = cc in
    let stuck : None ≡ Some (Ended other) = subst (λ s. run s (y ∷ ys) ≡ Some (Ended other)) ended q in
    absurd (cc)
same_end reached (x ∷ xs) [] us vs row other p q e =
    let ended : reached ≡ Ended other = cc in
    let stuck : None ≡ Some (Ended row) = subst (λ s. run s (x ∷ xs) ≡ Some (Ended row)) ended p in
    absurd (cc)
same_end reached (x ∷ xs) (y ∷ ys) us vs row other p q e =
    let head : y ≡ x = cc in
    let tail : xs ++ us ≡ ys ++ vs = cc in
    let q' : run reached (x ∷ ys) ≡ Some (Ended other) =
    subst (λ b. run reached (b ∷ ys) ≡ Some (Ended other)) head q in
    elim (step reached x) as (λ o.
    option_and_then (λ next. run next xs) o ≡ Some (Ended row)
    → option_and_then (λ next. run next ys) o ≡ Some (Ended other)
    → (x ∷ xs ≡ y ∷ ys) × (us ≡ vs) × (row ≡ other)) [
      | None ↦ λ a b. absurd (cc)
      | Some next ↦ λ a b. let same = same_end next xs ys us vs row other a b tail in (cc, same.1, same.2)
    ] p q'

line_once : (channels : List Channel)
    → AreChannels channels
    → (line other us vs : List ℕ) (row row' : List ℤ)
    → IsLine channels line row
    → IsLine channels other row'
    → line ++ us ≡ other ++ vs
    → (line ≡ other) × (us ≡ vs) × (row ≡ row')
line_once [] are line other us vs row row' h k e = absurd (omega (arith, are.some))
line_once (channel ∷ channels) are line other us vs row row' h k e =
    same_end (At [] channel channels Empty) line other us vs row row' (line_run (channel ∷ channels) are line row h)
    (line_run (channel ∷ channels) are other row' k) e

-- no whole line stands at the front of the bytes
NoLine : List Channel → List ℕ → Type 0
NoLine channels rest = (line more : List ℕ) (row : List ℤ) → rest ≡ line ++ more → IsLine channels line row → ⊥

-- what follows the last whole line is the same wherever lines are found
same_front : (channels : List Channel)
    → AreChannels channels
    → (front other rest rest' : List ℕ) (rows rows' : List (List ℤ))
    → Lines front channels rows
    → Lines other channels rows'
    → front ++ rest ≡ other ++ rest'
    → NoLine channels rest
    → NoLine channels rest'
    → (rows ≡ rows') × (rest ≡ rest')
unfolding NoLine
same_front channels are front other rest rest' [] [] h k e none none' =
    (refl, ap (λ l. l ++ rest) (sym h) ∙ e ∙ ap (λ l. l ++ rest') k)
same_front channels are front other rest rest' [] (row ∷ rows) h k e none none' =
    absurd (none k.0 (k.1 ++ rest') row
    (ap (λ l. l ++ rest) (sym h) ∙ e ∙ ap (λ l. l ++ rest') k.2 ∙ append_assoc k.0 k.1 rest') k.3)
same_front channels are front other rest rest' (row ∷ rows) [] h k e none none' =
    absurd (none' h.0 (h.1 ++ rest) row
    (ap (λ l. l ++ rest') (sym k) ∙ sym e ∙ ap (λ l. l ++ rest) h.2 ∙ append_assoc h.0 h.1 rest) h.3)
same_front channels are front other rest rest' (row ∷ rows) (row' ∷ rows') h k e none none' =
    let all : h.0 ++ (h.1 ++ rest) ≡ k.0 ++ (k.1 ++ rest') =
    sym (append_assoc h.0 h.1 rest) ∙ ap (λ l. l ++ rest) (sym h.2) ∙ e ∙ ap (λ l. l ++ rest') k.2
    ∙ append_assoc k.0 k.1 rest' in
    let first = line_once channels are h.0 k.0 (h.1 ++ rest) (k.1 ++ rest') row row' h.3 k.3 all in
    let others = same_front channels are h.1 k.1 rest rest' rows rows' h.4 k.4 first.1 none none' in
    (ap (λ r. r ∷ rows) first.2 ∙ ap (λ rs. row' ∷ rs) others.0, others.1)

-- behind a line's end the machine takes no byte
ended_behind : (row : List ℤ) (more : List ℕ) (words : List ℤ) (channel : Channel) (negative : Bool) (magnitude : ℕ)
    → run (Ended row) more ≡ Some (At words channel [] (Digits negative magnitude))
    → ⊥
ended_behind row [] words channel negative magnitude e = cc
ended_behind row (byte ∷ more) words channel negative magnitude e = cc

-- a row's text is no whole line, and has no whole line at its front
text_no_line : (channels : List Channel)
    → AreChannels channels
    → (rest : List ℕ) (row : List ℤ)
    → RowText channels rest row
    → NoLine channels rest
unfolding NoLine
text_no_line channels are rest row text line more other e ended =
    let read = text_run channels are rest row text in
    let behind : run_line channels rest ≡ run (Ended other) more =
    ap (run_line channels) e
    ∙ run_line_on channels (Ended other) line more (line_run channels are line other ended) in
    let both : run (Ended other) more ≡ Some (At read.words read.channel [] (Digits read.negative read.magnitude)) =
    sym behind ∙ read.led in
    ended_behind other more read.words read.channel read.negative read.magnitude both

-- where nothing more comes, there is no line
nothing_no_line : (channels : List Channel) (rest : List ℕ) → rest ≡ [] → NoLine channels rest
unfolding NoLine
nothing_no_line channels rest e line more row is ended =
    let all = sym (ap length e) ∙ ap length is ∙ length-append line more in
    omega (arith, all, line_some channels line row ended)

-- a text is the text of one row
text_once : (channels : List Channel)
    → AreChannels channels
    → (text : List ℕ) (row other : List ℤ)
    → RowText channels text row
    → RowText channels text other
    → row ≡ other
text_once channels are text row other h k =
    let one = text_run channels are text row h in
    let two = text_run channels are text other k in
    let same : Some (At one.words one.channel [] (Digits one.negative one.magnitude))
    ≡ Some (At two.words two.channel [] (Digits two.negative two.magnitude)) = sym one.led ∙ two.led in
    let words : one.words ≡ two.words = cc in
    let negative : one.negative ≡ two.negative = cc in
    let magnitude : one.magnitude ≡ two.magnitude = cc in
    one.row_is ∙ ap (λ w. w ++ signed one.negative one.magnitude ∷ []) words
    ∙ ap (λ n. two.words ++ signed n one.magnitude ∷ []) negative
    ∙ ap (λ m. two.words ++ signed two.negative m ∷ []) magnitude ∙ sym two.row_is

-- no row has the empty text
text_some : (channels : List Channel) → AreChannels channels → (row : List ℤ) → RowText channels [] row → ⊥
text_some [] are row h = omega (arith, are.some)
text_some (channel ∷ channels) are row h =
    let read = text_run (channel ∷ channels) are [] row h in let led = read.led in cc

-- a stream's bytes: whole lines, and then nothing or the text of one row more
record Divided (bytes : List ℕ) (channels : List Channel) (rows : List (List ℤ)) : Type 0 where
  front : List ℕ
  rest : List ℕ
  before : List (List ℤ)
  last : List (List ℤ)
  bytes_are : bytes ≡ front ++ rest
  rows_are : rows ≡ before ++ last
  lines : Lines front channels before
  end : ((rest ≡ []) × (last ≡ [])) ⊎ ((row : List ℤ) × RowText channels rest row × (last ≡ row ∷ []))

divided : (bytes : List ℕ) (channels : List Channel) (rows : List (List ℤ))
    → RowsOf bytes channels rows
    → Divided bytes channels rows
divided bytes channels rows (inl lines) = record {
  front = bytes;
  rest = [];
  before = rows;
  last = [];
  bytes_are = sym (append-nil bytes);
  rows_are = sym (append-nil rows);
  lines = lines;
  end = inl (refl, refl);
}
divided bytes channels rows (inr lacks) = record {
  front = lacks.front;
  rest = lacks.text;
  before = lacks.before;
  last = lacks.last ∷ [];
  bytes_are = lacks.bytes_are;
  rows_are = lacks.rows_are;
  lines = lacks.lines;
  end = inr (lacks.last, lacks.row_text, refl);
}

divided_no_line : (bytes : List ℕ) (channels : List Channel)
    → AreChannels channels
    → (rows : List (List ℤ)) (d : Divided bytes channels rows)
    → NoLine channels d.rest
divided_no_line bytes channels are rows d = elim d.end as (λ _. NoLine channels d.rest) [
  | inl nothing ↦ nothing_no_line channels d.rest nothing.0
  | inr text ↦ text_no_line channels are d.rest text.0 text.1
]

same_last : (channels : List Channel)
    → AreChannels channels
    → (rest rest' : List ℕ) (last last' : List (List ℤ))
    → rest ≡ rest'
    → ((rest ≡ []) × (last ≡ [])) ⊎ ((row : List ℤ) × RowText channels rest row × (last ≡ row ∷ []))
    → ((rest' ≡ []) × (last' ≡ [])) ⊎ ((row : List ℤ) × RowText channels rest' row × (last' ≡ row ∷ []))
    → last ≡ last'
same_last channels are rest rest' last last' e (inl h) (inl k) = h.1 ∙ sym k.1
same_last channels are rest rest' last last' e (inl h) (inr k) =
    absurd (text_some channels are k.0 (subst (λ t. RowText channels t k.0) (sym e ∙ h.0) k.1))
same_last channels are rest rest' last last' e (inr h) (inl k) =
    absurd (text_some channels are h.0 (subst (λ t. RowText channels t h.0) (e ∙ k.0) h.1))
same_last channels are rest rest' last last' e (inr h) (inr k) =
    h.2 ∙ ap (λ r. r ∷ []) (text_once channels are rest h.0 k.0 h.1 (subst (λ t. RowText channels t k.0) (sym e) k.1))
    ∙ sym k.2

-- the bytes are those of one stream at most
pub RowsOf_once : (bytes : List ℕ) (channels : List Channel) (rows others : List (List ℤ))
    → AreChannels channels
    → RowsOf bytes channels rows
    → RowsOf bytes channels others
    → rows ≡ others
RowsOf_once bytes channels rows others are h k =
    let d = divided bytes channels rows h in
    let e = divided bytes channels others k in
    let same =
    same_front channels are d.front e.front d.rest e.rest d.before e.before d.lines e.lines
    (sym d.bytes_are ∙ e.bytes_are)
    (divided_no_line bytes channels are rows d) (divided_no_line bytes channels are others e) in
    let last : d.last ≡ e.last = same_last channels are d.rest e.rest d.last e.last same.1 d.end e.end in
    d.rows_are ∙ ap (λ l. l ++ d.last) same.0 ∙ ap (λ l. e.before ++ l) last ∙ sym e.rows_are

-- a line ends in a line feed
line_feed_in : (channels : List Channel) (line : List ℕ) (row : List ℤ) → IsLine channels line row → Contains line 10
line_feed_in channels line row h =
    let end : Contains h.end 10 = elim h.line_end [
      | inl lf ↦ (0, omega (arith, ap length lf), ap (λ l. get_or l 0 10) lf)
      | inr crlf ↦ (1, omega (arith, ap length crlf), ap (λ l. get_or l 1 10) crlf)
    ] in
    subst (λ l. Contains l 10) (sym h.line_is) (Contains-append_right h.text h.end 10 end)

begins_less : (channels : List Channel) (bytes more : List ℕ)
    → BeginsRow channels (bytes ++ more)
    → BeginsRow channels bytes
begins_less channels bytes more b =
    (more ++ b.0, b.1, subst (λ l. IsLine channels l b.1) (append_assoc bytes more b.0) b.2)

-- the first n bytes of a line begin its row
line_begins : (channels : List Channel) (line : List ℕ) (row : List ℤ) (n : ℕ)
    → IsLine channels line row
    → BeginsRow channels (take n line)
line_begins channels line row n h =
    (drop n line, row, subst (λ l. IsLine channels l row) (sym (take-append-drop n line)) h)

-- no whole line stands where the first bad place is
bad_no_line : (bytes : List ℕ) (channels : List Channel) (fault : RowFault) (bad : IsFirstBadPlace bytes channels fault)
    → NoLine channels bad.rest
unfolding NoLine
bad_no_line bytes channels fault bad line more row is ended = elim (cases_lt fault.at (length line)) [
  | inl before ↦ elim bad.stops [
    | inl stops ↦
        stops.1 (subst (BeginsRow channels)
        (sym (ap (take (fault.at + 1)) is ∙ take-append-le (fault.at + 1) line more (omega (arith, before))))
        (line_begins channels line row (fault.at + 1) ended))
    | inr ends ↦ omega (arith, ends.0, ap length is, length-append line more, before)
  ]
  | inr behind ↦
      let place : fault.at ≡ length line + (fault.at - length line) = omega arith in
      let front : take fault.at bad.rest ≡ line ++ take (fault.at - length line) more =
      ap (λ n. take n bad.rest) place ∙ ap (take (length line + (fault.at - length line))) is
      ∙ take-append-add line more (fault.at - length line) in
      bad.same_line
      (subst (λ l. Contains l 10) (sym front)
      (Contains-append_left line (take (fault.at - length line) more) 10 (line_feed_in channels line row ended)))
]

-- a row's text is broken off nowhere, and so is nothing
text_no_stop : (channels : List Channel) (rest : List ℕ) (row : List ℤ) (at : ℕ)
    → RowText channels rest row
    → StopsAt channels rest at
    → ⊥
text_no_stop channels rest row at text (inl stops) =
    let line : IsLine channels (rest ++ 10 ∷ []) row =
    record { text = rest; end = 10 ∷ []; line_is = refl; row_text = text; line_end = inl refl } in
    stops.1 (subst (BeginsRow channels) (take-append-le (at + 1) rest (10 ∷ []) (omega (arith, stops.0)))
    (line_begins channels (rest ++ 10 ∷ []) row (at + 1) line))
text_no_stop channels rest row at text (inr ends) = ends.2 row text

nothing_no_stop : (channels : List Channel) (rest : List ℕ) (at : ℕ) → rest ≡ [] → StopsAt channels rest at → ⊥
nothing_no_stop channels rest at nothing (inl stops) = omega (arith, stops.0, ap length nothing)
nothing_no_stop channels rest at nothing (inr ends) = omega (arith, ends.0, ends.1, ap length nothing)

-- the bytes of a stream have no bad place
pub RowsOf-no_bad_place : (bytes : List ℕ) (channels : List Channel) (rows : List (List ℤ)) (fault : RowFault)
    → AreChannels channels
    → RowsOf bytes channels rows
    → IsFirstBadPlace bytes channels fault
    → ⊥
RowsOf-no_bad_place bytes channels rows fault are h bad =
    let d = divided bytes channels rows h in
    let same =
    same_front channels are d.front bad.front d.rest bad.rest d.before bad.rows d.lines bad.before
    (sym d.bytes_are ∙ bad.bytes_are)
    (divided_no_line bytes channels are rows d) (bad_no_line bytes channels fault bad) in
    let stops : StopsAt channels d.rest fault.at = subst (λ r. StopsAt channels r fault.at) (sym same.1) bad.stops in
    elim d.end as (λ _. ⊥) [
      | inl nothing ↦ nothing_no_stop channels d.rest fault.at nothing.0 stops
      | inr text ↦ text_no_stop channels d.rest text.0 fault.at text.1 stops
    ]

stops_within : (channels : List Channel) (rest : List ℕ) (at : ℕ) → StopsAt channels rest at → at ≤ length rest
stops_within channels rest at (inl stops) = omega (arith, stops.0)
stops_within channels rest at (inr ends) = omega (arith, ends.0)

-- what begins a row has no place before its end where that stops
begins_no_stop : (channels : List Channel) (rest : List ℕ) (at later : ℕ)
    → at < later
    → later ≤ length rest
    → BeginsRow channels (take later rest)
    → StopsAt channels rest at
    → ⊥
begins_no_stop channels rest at later before within begins (inl stops) =
    let more = later - (at + 1) in
    let place : later ≡ at + 1 + more = omega arith in
    let all : take later rest ≡ take (at + 1) rest ++ take more (drop (at + 1) rest) =
    ap (λ n. take n rest) place ∙ take-add (at + 1) more rest in
    stops.1
    (begins_less channels (take (at + 1) rest) (take more (drop (at + 1) rest)) (subst (BeginsRow channels) all begins))
begins_no_stop channels rest at later before within begins (inr ends) = omega (arith, ends.0, before, within)

-- there is one first bad place at most
pub bad_place_once : (bytes : List ℕ) (channels : List Channel) (fault other : RowFault)
    → AreChannels channels
    → IsFirstBadPlace bytes channels fault
    → IsFirstBadPlace bytes channels other
    → fault ≡ other
bad_place_once bytes channels fault other are bad bad' =
    let same =
    same_front channels are bad.front bad'.front bad.rest bad'.rest bad.rows bad'.rows bad.before bad'.before
    (sym bad.bytes_are ∙ bad'.bytes_are)
    (bad_no_line bytes channels fault bad) (bad_no_line bytes channels other bad') in
    let line : fault.line ≡ other.line = omega (arith, bad.line, bad'.line, ap length same.0) in
    let stops : StopsAt channels bad.rest other.at = subst (λ r. StopsAt channels r other.at) (sym same.1) bad'.stops in
    let begins : BeginsRow channels (take other.at bad.rest) =
    subst (λ r. BeginsRow channels (take other.at r)) (sym same.1) bad'.begins in
    let at : fault.at ≡ other.at = elim (cases_order fault.at other.at) [
      | inl equal ↦ equal
      | inr (inl before) ↦
          absurd (begins_no_stop channels bad.rest fault.at other.at before
          (stops_within channels bad.rest other.at stops) begins bad.stops)
      | inr (inr behind) ↦
          absurd (begins_no_stop channels bad.rest other.at fault.at behind
          (stops_within channels bad.rest fault.at bad.stops) bad.begins stops)
    ] in
    let made : ℕ → ℕ → RowFault = λ l a. record { line = l; at = a } in
    ap (λ l. made l fault.at) line ∙ ap (made other.line) at

-- a row that was read is a row of the channels
words_row : (channels : List Channel) (texts : List (List ℕ)) (row : List ℤ)
    → AreWords channels texts row
    → IsRow channels row
words_row channels texts row no_words = tt
words_row channels texts row (one_more {channels = cs} {texts = ts} {words = ws} here rest) =
    (here.in_channel, words_row cs ts ws rest)

lines_stream : (bytes : List ℕ) (channels : List Channel) (rows : List (List ℤ))
    → Lines bytes channels rows
    → IsStream channels rows
lines_stream bytes channels [] h = All-nil (IsRow channels)
lines_stream bytes channels (row ∷ rows) h =
    All-cons (IsRow channels) row rows (words_row channels h.3.row_text.texts row h.3.row_text.words)
    (lines_stream h.1 channels rows h.4)

-- the rows of a file are a stream of the channels
pub RowsOf-stream : (bytes : List ℕ) (channels : List Channel) (rows : List (List ℤ))
    → RowsOf bytes channels rows
    → IsStream channels rows
RowsOf-stream bytes channels rows (inl lines) = lines_stream bytes channels rows lines
RowsOf-stream bytes channels rows (inr lacks) =
    let last = words_row channels lacks.row_text.texts lacks.last lacks.row_text.words in
    subst (IsStream channels) (sym lacks.rows_are)
    (All-append (IsRow channels) lacks.before (lacks.last ∷ [])
    (lines_stream lacks.front channels lacks.before lacks.lines)
    (All-cons (IsRow channels) lacks.last [] last (All-nil (IsRow channels))))

-- as it is written, a word of a channel is the text of that word
printed_is_word : (channel : Channel) (word : ℤ)
    → IsChannel channel
    → IsInChannel channel word
    → IsWord channel (signed_decimal word) word
printed_is_word channel (pos n) is h =
    let text = decimal_is_IsNumeral n (omega (arith, ints, is.high, h.1)) in
    record {
      negative = false;
      digits = decimal n;
      text_is = refl;
      numeral = text.0;
      word_is = ap pos (sym text.1);
      in_channel = h;
    }
printed_is_word channel (negsuc n) is h =
    let text = decimal_is_IsNumeral (suc n) (omega (arith, ints, is.low, h.0)) in
    record {
      negative = true;
      digits = decimal (suc n);
      text_is = refl;
      numeral = text.0;
      word_is = ap (λ m. neg_ℤ (pos m)) (sym text.1);
      in_channel = h;
    }

printed_words : (channels : List Channel) (row : List ℤ)
    → All IsChannel channels
    → IsRow channels row
    → AreWords channels (map signed_decimal row) row
printed_words [] [] all h = no_words
printed_words [] (word ∷ row) all h = absurd h
printed_words (channel ∷ channels) [] all h = absurd h
printed_words (channel ∷ channels) (word ∷ row) all h =
    one_more (printed_is_word channel word (All-head IsChannel channel channels all) h.0)
    (printed_words channels row (All-tail IsChannel channel channels all) h.1)

printed_lines : (channels : List Channel) (rows : List (List ℤ))
    → All IsChannel channels
    → IsStream channels rows
    → Lines (printed rows) channels rows
printed_lines channels [] all h = refl
printed_lines channels (row ∷ rows) all h = (
  printed_row row,
  printed rows,
  refl,
  record {
    text = join_with_byte 44 (map signed_decimal row);
    end = 10 ∷ [];
    line_is = refl;
    row_text = record {
      texts = map signed_decimal row;
      text_is = refl;
      words = printed_words channels row all (All-head (IsRow channels) row rows h);
    };
    line_end = inl refl;
  },
  printed_lines channels rows all (All-tail (IsRow channels) row rows h),
)

-- a stream that was written is read as it was
pub printed-RowsOf : (channels : List Channel) (rows : List (List ℤ))
    → AreChannels channels
    → IsStream channels rows
    → RowsOf (printed rows) channels rows
printed-RowsOf channels rows are h = inl (printed_lines channels rows are.each h)

-- no whole line stands in bytes without a line feed
unended_no_line : (channels : List Channel) (line : List ℕ) → (Contains line 10 → ⊥) → NoLine channels line
unfolding NoLine
unended_no_line channels line unended first more row is ended =
    unended
    (subst (λ l. Contains l 10) (sym is) (Contains-append_left first more 10 (line_feed_in channels first row ended)))

-- lines at the front of bytes are those of the first of all rows of them
first_rows : (channels : List Channel)
    → AreChannels channels
    → (front other rest rest' : List ℕ) (some rows : List (List ℤ))
    → Lines front channels some
    → Lines other channels rows
    → front ++ rest ≡ other ++ rest'
    → NoLine channels rest'
    → (more : List (List ℤ)) × (rows ≡ some ++ more)
unfolding NoLine
first_rows channels are front other rest rest' [] rows h k e none = (rows, refl)
first_rows channels are front other rest rest' (row ∷ some) [] h k e none =
    absurd (none h.0 (h.1 ++ rest) row
    (ap (λ l. l ++ rest') (sym k) ∙ sym e ∙ ap (λ l. l ++ rest) h.2 ∙ append_assoc h.0 h.1 rest) h.3)
first_rows channels are front other rest rest' (row ∷ some) (row' ∷ rows) h k e none =
    let all : h.0 ++ (h.1 ++ rest) ≡ k.0 ++ (k.1 ++ rest') =
    sym (append_assoc h.0 h.1 rest) ∙ ap (λ l. l ++ rest) (sym h.2) ∙ e ∙ ap (λ l. l ++ rest') k.2
    ∙ append_assoc k.0 k.1 rest' in
    let first = line_once channels are h.0 k.0 (h.1 ++ rest) (k.1 ++ rest') row row' h.3 k.3 all in
    let others = first_rows channels are h.1 k.1 rest rest' some rows h.4 k.4 first.1 none in
    (others.0, ap (λ r. r ∷ rows) (sym first.2) ∙ ap (λ rs. row ∷ rs) others.1)

-- before a line begun
pub first_lines : (channels : List Channel)
    → AreChannels channels
    → (front rest other line : List ℕ) (some rows : List (List ℤ))
    → front ++ rest ≡ other ++ line
    → Lines front channels some
    → Lines other channels rows
    → (Contains line 10 → ⊥)
    → (more : List (List ℤ)) × (rows ≡ some ++ more)
first_lines channels are front rest other line some rows e h k unended =
    first_rows channels are front other rest line some rows h k e (unended_no_line channels line unended)

-- in a stream
pub RowsOf_first : (channels : List Channel)
    → AreChannels channels
    → (front rest : List ℕ) (some rows : List (List ℤ))
    → Lines front channels some
    → RowsOf (front ++ rest) channels rows
    → (more : List (List ℤ)) × (rows ≡ some ++ more)
RowsOf_first channels are front rest some rows h of =
    let d = divided (front ++ rest) channels rows of in
    let (more, before) = first_rows channels are front d.front rest d.rest some d.before h d.lines d.bytes_are
    (divided_no_line (front ++ rest) channels are rows d) in
    (more ++ d.last, d.rows_are ∙ ap (λ l. l ++ d.last) before ∙ append_assoc some more d.last)

-- before the first bad place
pub bad_place_first : (channels : List Channel)
    → AreChannels channels
    → (front rest : List ℕ) (some : List (List ℤ)) (fault : RowFault)
    → Lines front channels some
    → (bad : IsFirstBadPlace (front ++ rest) channels fault)
    → (more : List (List ℤ)) × (bad.rows ≡ some ++ more)
bad_place_first channels are front rest some fault h bad =
    first_rows channels are front bad.front rest bad.rest some bad.rows h bad.before bad.bytes_are
    (bad_no_line (front ++ rest) channels fault bad)

-- of lines at the front of the same bytes, the one rows begin with the others
pub lines_compare : (channels : List Channel)
    → AreChannels channels
    → (front rest other rest' : List ℕ) (some rows : List (List ℤ))
    → front ++ rest ≡ other ++ rest'
    → Lines front channels some
    → Lines other channels rows
    → ((more : List (List ℤ)) × (rows ≡ some ++ more)) ⊎ ((more : List (List ℤ)) × (some ≡ rows ++ more))
lines_compare channels are front rest other rest' [] rows e h k = inl (rows, refl)
lines_compare channels are front rest other rest' (row ∷ some) [] e h k = inr (row ∷ some, refl)
lines_compare channels are front rest other rest' (row ∷ some) (row' ∷ rows) e h k =
    let all : h.0 ++ (h.1 ++ rest) ≡ k.0 ++ (k.1 ++ rest') =
    sym (append_assoc h.0 h.1 rest) ∙ ap (λ l. l ++ rest) (sym h.2) ∙ e ∙ ap (λ l. l ++ rest') k.2
    ∙ append_assoc k.0 k.1 rest' in
    let first = line_once channels are h.0 k.0 (h.1 ++ rest) (k.1 ++ rest') row row' h.3 k.3 all in
    ⊎_elim (λ more. inl (more.0, ap (λ r. r ∷ rows) (sym first.2) ∙ ap (λ rs. row ∷ rs) more.1))
    (λ more. inr (more.0, ap (λ r. r ∷ some) first.2 ∙ ap (λ rs. row' ∷ rs) more.1))
    (lines_compare channels are h.1 rest k.1 rest' some rows first.1 h.4 k.4)

-- so they are no more than all lines
pub lines_at_front : (channels : List Channel)
    → AreChannels channels
    → (front rest other line : List ℕ) (some rows : List (List ℤ))
    → front ++ rest ≡ other ++ line
    → Lines front channels some
    → Lines other channels rows
    → (Contains line 10 → ⊥)
    → length some ≤ length rows
lines_at_front channels are front rest other line some rows e h k unended =
    let (more, all) = first_lines channels are front rest other line some rows e h k unended in
    omega (arith, ap length all, length-append some more)

-- the lines of bytes are the same wherever they are found in front of a line begun
pub lines_once : (channels : List Channel)
    → AreChannels channels
    → (front rest other line : List ℕ) (rows rows' : List (List ℤ))
    → front ++ rest ≡ other ++ line
    → Lines front channels rows
    → Lines other channels rows'
    → (Contains rest 10 → ⊥)
    → (Contains line 10 → ⊥)
    → rows ≡ rows'
lines_once channels are front rest other line rows rows' e h k none none' =
    (same_front channels are front other rest line rows rows' h k e (unended_no_line channels rest none)
    (unended_no_line channels line none')).0
