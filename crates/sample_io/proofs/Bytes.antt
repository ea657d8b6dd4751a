-- One byte more of a line: for each kind of byte, what the line then is, or that it begins no row.
use Rattle.std.proofs.Common.{◌≡◌, ℕ, ◌+◌, ◌*◌, ◌<◌, Bool, true, false, cond, List, [], ◌∷◌, ◌++◌, length, Contains}
use Rattle.std.proofs.Common.{All, ℤ, Option, Some, None, IfSome, IfNone, ◌^◌, refl, ap, sym, ◌∙◌, subst, append_assoc}
use Rattle.std.proofs.Common.{arith, inl, inr, get_or}
use Rattle.std.specs.Char.{digit_value}
use Rattle.std.specs.List.{flat_map}
use Rattle.std.specs.Option.{option_and_then}
use Rattle.std.proofs.lemmas.Bool.{ne_eqb}
use Rattle.std.proofs.lemmas.Grind.{flat_map-append}
use Rattle.std.proofs.lemmas.Int.Digits.{digits_push, digits_value_push}
use Rattle.std.proofs.lemmas.List.{append-nil, length-append, nil_from_length}
use Rattle.std.proofs.lemmas.List.Elements.{Contains-append_cases}
use Rattle.sample_io.specs.declared.channel.Channel.{Channel}
use Rattle.sample_io.specs.declared.read.LineState.{LineState}
use Rattle.sample_io.specs.declared.read.Part.{Part}
use Rattle.sample_io.specs.declared.read.Part.TheVariants.{Empty, Minus, Digits, Return}
use Rattle.sample_io.specs.Channels.{IsInChannel, IsChannel, AreChannels}
use Rattle.sample_io.specs.Samples.{signed, signed_text, IsWord, no_words, one_more, RowText, IsLine, BeginsRow}
use Rattle.sample_io.specs.Private.Begun.{IsPart, with_comma, LineSoFar}
use Rattle.sample_io.specs.Private.Reading.{HasDigit, TakesByte}
use Rattle.sample_io.specs.declared.read.Progress.{Progress}
use Rattle.sample_io.specs.declared.read.Progress.TheVariants.{Within, Word, Row}
use Rattle.std.proofs.lemmas.Int.{ints}
use Rattle.std.proofs.lemmas.Str.Parse.{digit_from_value}
use Rattle.std.proofs.Math.Seq.{get_or-append_seam}
use Rattle.sample_io.proofs.Machine.{Reached, At, Ended, opened, at_last, step, run, run_line, run_line_on, digit}
use Rattle.sample_io.proofs.Machine.{digit_refused}
use Rattle.sample_io.proofs.Texts.{AreWords-append, row_text}
use Rattle.sample_io.proofs.Runs.{line_run, so_far_run, of_middle}

-- a line without a line feed, and a byte that is none
no_line_feed : (line : List ℕ) (byte : ℕ)
    → (Contains line 10 → ⊥)
    → (byte ≡ 10 → ⊥)
    → Contains (line ++ byte ∷ []) 10
    → ⊥
no_line_feed line byte unended other has =
    elim (Contains-append_cases line (byte ∷ []) 10 has) [ inl front ↦ unended front | inr last ↦ grind arith ]

-- the byte goes on with the word
within_word :
    (channels : List Channel) (line : List ℕ) (words : List ℤ) (state : LineState)
    (h : LineSoFar channels line words state) (byte : ℕ) (part : Part)
    → (byte ≡ 10 → ⊥)
    → IsPart h.channel h.left (h.text ++ byte ∷ []) part
    → LineSoFar channels (line ++ byte ∷ []) words (record { column = state.column; part = part })
within_word channels line words state h byte part other now = record {
  done = h.done;
  channel = h.channel;
  left = h.left;
  channels_are = h.channels_are;
  column = h.column;
  texts = h.texts;
  text = h.text ++ byte ∷ [];
  line_is = ap (λ l. l ++ byte ∷ []) h.line_is ∙ append_assoc (flat_map with_comma h.texts) h.text (byte ∷ []);
  whole = h.whole;
  part = now;
  unended = no_line_feed line byte h.unended other;
}

-- a digit behind nothing, behind a minus and behind digits
first_digit : (channel : Channel) (left : List Channel) (text : List ℕ) (byte : ℕ)
    → IsPart channel left text Empty
    → HasDigit channel false 0 byte
    → IsPart channel left (text ++ byte ∷ []) (Digits false (0 * 10 + digit_value byte))
first_digit channel left text byte h has =
    (byte ∷ [], ap (λ t. t ++ byte ∷ []) h, (omega arith, (has.0, tt)), refl, has.1)

digit_behind_minus : (channel : Channel) (left : List Channel) (text : List ℕ) (byte : ℕ)
    → IsPart channel left text Minus
    → HasDigit channel true 0 byte
    → IsPart channel left (text ++ byte ∷ []) (Digits true (0 * 10 + digit_value byte))
digit_behind_minus channel left text byte h has =
    (byte ∷ [], ap (λ t. t ++ byte ∷ []) h, (omega arith, (has.0, tt)), refl, has.1)

signed_text-append : (negative : Bool) (digits : List ℕ) (byte : ℕ)
    → signed_text negative digits ++ byte ∷ [] ≡ signed_text negative (digits ++ byte ∷ [])
signed_text-append true digits byte = refl
signed_text-append false digits byte = refl

next_digit : (channel : Channel) (left : List Channel) (text : List ℕ) (negative : Bool) (magnitude byte : ℕ)
    → IsPart channel left text (Digits negative magnitude)
    → HasDigit channel negative magnitude byte
    → IsPart channel left (text ++ byte ∷ []) (Digits negative (magnitude * 10 + digit_value byte))
next_digit channel left text negative magnitude byte h has = (
  h.0 ++ byte ∷ [],
  ap (λ t. t ++ byte ∷ []) h.1 ∙ signed_text-append negative h.0 byte,
  (omega (arith, length-append h.0 (byte ∷ []), h.2.0), digits_push 10 h.0 byte h.2.1 has.0),
  ap (λ n. n * 10 + digit_value byte) h.3 ∙ sym (digits_value_push 10 h.0 byte),
  has.1,
)

-- digits are the text of a word
pub word_of_digits : (channel : Channel) (left : List Channel) (text : List ℕ) (negative : Bool) (magnitude : ℕ)
    → IsPart channel left text (Digits negative magnitude)
    → IsWord channel text (signed negative magnitude)
word_of_digits channel left text negative magnitude h = record {
  negative = negative;
  digits = h.0;
  text_is = h.1;
  numeral = h.2;
  word_is = ap (signed negative) h.3;
  in_channel = h.4;
}

-- a comma behind a word, where there is a channel for the next one
comma_taken :
    (channels : List Channel) (line : List ℕ) (words : List ℤ) (state : LineState)
    (h : LineSoFar channels line words state) (word : ℤ) (left : List Channel)
    → h.left ≡ left
    → IsWord h.channel h.text word
    → 0 < length left
    → LineSoFar channels (line ++ 44 ∷ []) (words ++ word ∷ []) (record { column = state.column + 1; part = Empty })
comma_taken channels line words state h word [] is is_word some = absurd (omega (arith, some))
comma_taken channels line words state h word (next ∷ left) is is_word some =
    let texts = h.texts ++ h.text ∷ [] in
    let all_texts : flat_map with_comma texts ≡ flat_map with_comma h.texts ++ (with_comma h.text ++ []) =
    flat_map-append with_comma h.texts (h.text ∷ []) in
    let arranged : (flat_map with_comma h.texts ++ h.text) ++ 44 ∷ []
    ≡ (flat_map with_comma h.texts ++ (with_comma h.text ++ [])) ++ [] = simp (append_assoc, append-nil) in
    record {
      done = h.done ++ h.channel ∷ [];
      channel = next;
      left = left;
      channels_are =
          h.channels_are ∙ ap (λ l. h.done ++ h.channel ∷ l) is
          ∙ sym (append_assoc h.done (h.channel ∷ []) (next ∷ left));
      column = ap (λ n. n + 1) h.column ∙ sym (length-append h.done (h.channel ∷ []));
      texts = texts;
      text = [];
      line_is = ap (λ l. l ++ 44 ∷ []) h.line_is ∙ arranged ∙ ap (λ l. l ++ []) (sym all_texts);
      whole =
          AreWords-append h.done h.texts words (h.channel ∷ []) (h.text ∷ []) (word ∷ []) h.whole
          (one_more is_word no_words);
      part = refl;
      unended = no_line_feed line 44 h.unended (λ e. omega (arith, e));
    }

-- the text of the row, behind its last word
pub last_text :
    (channels : List Channel) (line : List ℕ) (words : List ℤ) (state : LineState)
    (h : LineSoFar channels line words state) (text : List ℕ) (word : ℤ)
    → h.left ≡ []
    → IsWord h.channel text word
    → RowText channels (flat_map with_comma h.texts ++ text) (words ++ word ∷ [])
last_text channels line words state h text word last is_word =
    subst (λ l. RowText l (flat_map with_comma h.texts ++ text) (words ++ word ∷ []))
    (sym (h.channels_are ∙ ap (λ l. h.done ++ h.channel ∷ l) last))
    (row_text h.done h.texts words h.channel text word [] [] [] h.whole is_word no_words)

-- LF behind the row's last word
lf_taken :
    (channels : List Channel) (line : List ℕ) (words : List ℤ) (state : LineState)
    (h : LineSoFar channels line words state) (word : ℤ)
    → h.left ≡ []
    → IsWord h.channel h.text word
    → IsLine channels (line ++ 10 ∷ []) (words ++ word ∷ [])
lf_taken channels line words state h word last is_word = record {
  text = line;
  end = 10 ∷ [];
  line_is = refl;
  row_text =
      subst (λ l. RowText channels l (words ++ word ∷ [])) (sym h.line_is)
      (last_text channels line words state h h.text word last is_word);
  line_end = inl refl;
}

-- LF behind the CR
crlf_taken :
    (channels : List Channel) (line : List ℕ) (words : List ℤ) (state : LineState)
    (h : LineSoFar channels line words state) (word : ℤ)
    → IsPart h.channel h.left h.text (Return word)
    → IsLine channels (line ++ 10 ∷ []) (words ++ word ∷ [])
crlf_taken channels line words state h word returned =
    let front = flat_map with_comma h.texts in
    let arranged : (front ++ (returned.0 ++ 13 ∷ [])) ++ 10 ∷ [] ≡ (front ++ returned.0) ++ 13 ∷ 10 ∷ [] =
    simp append_assoc in
    record {
      text = front ++ returned.0;
      end = 13 ∷ 10 ∷ [];
      line_is = ap (λ l. l ++ 10 ∷ []) (h.line_is ∙ ap (λ t. front ++ t) returned.1) ∙ arranged;
      row_text = last_text channels line words state h returned.0 word returned.3 returned.2;
      line_end = inr refl;
    }

-- a byte that the machine refuses begins no row
refused : (channels : List Channel)
    → AreChannels channels
    → (line : List ℕ) (words : List ℤ) (state : LineState) (h : LineSoFar channels line words state) (byte : ℕ)
    (part : Part)
    → state.part ≡ part
    → step (At words h.channel h.left part) byte ≡ None
    → BeginsRow channels (line ++ byte ∷ [])
    → ⊥
refused channels are line words state h byte part is none begins =
    let ended : run_line channels ((line ++ byte ∷ []) ++ begins.0) ≡ Some (Ended begins.1) =
    line_run channels are ((line ++ byte ∷ []) ++ begins.0) begins.1 begins.2 in
    let here : run_line channels line ≡ Some (At words h.channel h.left part) =
    so_far_run channels are line words state h ∙ ap (λ p. Some (At words h.channel h.left p)) is in
    let stuck : run_line channels ((line ++ byte ∷ []) ++ begins.0) ≡ None =
    ap (run_line channels) (append_assoc line (byte ∷ []) begins.0)
    ∙ run_line_on channels (At words h.channel h.left part) line (byte ∷ begins.0) here
    ∙ ap (λ o. option_and_then (λ s. run s begins.0) o) none in
    cc

-- the state's column is that of the word's channel
channel_is :
    (channels : List Channel) (line : List ℕ) (words : List ℤ) (state : LineState)
    (h : LineSoFar channels line words state) (d : Channel)
    → get_or channels state.column d ≡ h.channel
channel_is channels line words state h d =
    ap (λ n. get_or channels n d) h.column ∙ ap (λ l. get_or l (length h.done) d) h.channels_are
    ∙ get_or-append_seam h.done h.channel h.left d

pub left_length :
    (channels : List Channel) (line : List ℕ) (words : List ℤ) (state : LineState)
    (h : LineSoFar channels line words state)
    → state.column + 1 + length h.left ≡ length channels
left_length channels line words state h =
    let all = ap length h.channels_are ∙ length-append h.done (h.channel ∷ h.left) in omega (arith, all, h.column)

pub column_within : (channels : List Channel) (line : List ℕ) (words : List ℤ) (state : LineState)
    → LineSoFar channels line words state
    → state.column < length channels
column_within channels line words state h = omega (arith, left_length channels line words state h)

in_channel_small : (channel : Channel)
    → IsChannel channel
    → (negative : Bool) (magnitude : ℕ)
    → IsInChannel channel (signed negative magnitude)
    → magnitude < 2 ^ 40
in_channel_small channel is true magnitude h = omega (arith, ints, is.low, h.0)
in_channel_small channel is false magnitude h = omega (arith, ints, is.high, h.1)

-- the size of the digits so far
pub magnitude_small : (channels : List Channel)
    → AreChannels channels
    → (line : List ℕ) (words : List ℤ) (state : LineState)
    → LineSoFar channels line words state
    → (negative : Bool) (magnitude : ℕ)
    → state.part ≡ Digits negative magnitude
    → magnitude < 2 ^ 40
magnitude_small channels are line words state h negative magnitude is =
    let all = of_middle IsChannel h.done h.channel h.left (subst (All IsChannel) h.channels_are are.each) in
    let part : IsPart h.channel h.left h.text (Digits negative magnitude) =
    subst (IsPart h.channel h.left h.text) is h.part in
    in_channel_small h.channel all negative magnitude part.4

-- a byte within the digits of a word
digit_byte : (channels : List Channel)
    → AreChannels channels
    → (line : List ℕ) (words : List ℤ) (state : LineState) (h : LineSoFar channels line words state)
    → (byte : ℕ) (part : Part) (negative : Bool) (magnitude : ℕ) (d : Channel) (result : Option Progress)
    (new : LineState)
    → state.part ≡ part
    → (IsPart h.channel h.left h.text part
    → HasDigit h.channel negative magnitude byte
    → IsPart h.channel h.left (h.text ++ byte ∷ []) (Digits negative (magnitude * 10 + digit_value byte)))
    → (digit words h.channel h.left negative magnitude byte ≡ None → step (At words h.channel h.left part) byte ≡ None)
    → IfSome result (λ progress.
    (progress ≡ Within)
    × HasDigit (get_or channels state.column d) negative magnitude byte
    × (new ≡ record { column = state.column; part = Digits negative (magnitude * 10 + digit_value byte) }))
    → IfNone result (HasDigit (get_or channels state.column d) negative magnitude byte → ⊥)
    → TakesByte channels line words byte result new
digit_byte channels are line words state h byte part negative magnitude d (Some progress) new is grown stops taken
    none =
    let has = subst (λ c. HasDigit c negative magnitude byte) (channel_is channels line words state h d) taken.1 in
    let here = within_word channels line words state h byte (Digits negative (magnitude * 10 + digit_value byte))
    (λ e. let range = digit_from_value byte has.0 in omega (arith, range.0, e))
    (grown (subst (IsPart h.channel h.left h.text) is h.part) has) in
    subst (λ p. TakesByte channels line words byte (Some p) new) (sym taken.0)
    (subst (LineSoFar channels (line ++ byte ∷ []) words) (sym taken.2) here)
digit_byte channels are line words state h byte part negative magnitude d None new is grown stops some none =
    let not_here = λ (has : HasDigit h.channel negative magnitude byte).
    none (subst (λ c. HasDigit c negative magnitude byte) (sym (channel_is channels line words state h d)) has) in
    refused channels are line words state h byte part is
    (stops (digit_refused words h.channel h.left negative magnitude byte not_here))

-- what the code says of a digit that it tries
pub record Tries (channels : List Channel)
    (state : LineState) (negative : Bool) (magnitude byte : ℕ) (result : Option Progress) (new : LineState)
    (d : Channel) : Type 0 where
  pub taken :
      IfSome result (λ progress.
      (progress ≡ Within)
      × HasDigit (get_or channels state.column d) negative magnitude byte
      × (new ≡ record { column = state.column; part = Digits negative (magnitude * 10 + digit_value byte) }))
  pub none : IfNone result (HasDigit (get_or channels state.column d) negative magnitude byte → ⊥)

pub byte_behind_nothing : (channels : List Channel)
    → AreChannels channels
    → (line : List ℕ) (words : List ℤ) (state : LineState)
    → LineSoFar channels line words state
    → (byte : ℕ) (d : Channel) (result : Option Progress) (new : LineState)
    → state.part ≡ Empty
    → (byte ≡ 45 → ⊥)
    → Tries channels state false 0 byte result new d
    → TakesByte channels line words byte result new
byte_behind_nothing channels are line words state h byte d result new is no_minus tries =
    digit_byte channels are line words state h byte Empty false 0 d result new is
    (first_digit h.channel h.left h.text byte)
    (λ none.
    ap (λ b. cond b (Some (At words h.channel h.left Minus)) (digit words h.channel h.left false 0 byte))
    (ne_eqb byte 45 no_minus) ∙ none)
    tries.taken tries.none

pub byte_behind_minus : (channels : List Channel)
    → AreChannels channels
    → (line : List ℕ) (words : List ℤ) (state : LineState)
    → LineSoFar channels line words state
    → (byte : ℕ) (d : Channel) (result : Option Progress) (new : LineState)
    → state.part ≡ Minus
    → Tries channels state true 0 byte result new d
    → TakesByte channels line words byte result new
byte_behind_minus channels are line words state h byte d result new is tries =
    digit_byte channels are line words state h byte Minus true 0 d result new is
    (digit_behind_minus h.channel h.left h.text byte) (λ none. none) tries.taken tries.none

pub byte_behind_digits : (channels : List Channel)
    → AreChannels channels
    → (line : List ℕ) (words : List ℤ) (state : LineState)
    → LineSoFar channels line words state
    → (byte : ℕ) (negative : Bool) (magnitude : ℕ) (d : Channel) (result : Option Progress) (new : LineState)
    → state.part ≡ Digits negative magnitude
    → (byte ≡ 44 → ⊥)
    → (byte ≡ 13 → ⊥)
    → (byte ≡ 10 → ⊥)
    → Tries channels state negative magnitude byte result new d
    → TakesByte channels line words byte result new
byte_behind_digits channels are line words state h byte negative magnitude d result new is no_comma no_cr no_lf tries =
    digit_byte channels are line words state h byte (Digits negative magnitude) negative magnitude d result new is
    (next_digit h.channel h.left h.text negative magnitude byte)
    (λ none. rw (ne_eqb byte 44 no_comma, ne_eqb byte 13 no_cr, ne_eqb byte 10 no_lf) none) tries.taken tries.none

-- a minus begins a word
pub minus_byte : (channels : List Channel) (line : List ℕ) (words : List ℤ) (state : LineState)
    → LineSoFar channels line words state
    → (byte : ℕ)
    → state.part ≡ Empty
    → byte ≡ 45
    → LineSoFar channels (line ++ byte ∷ []) words (record { column = state.column; part = Minus })
minus_byte channels line words state h byte is e =
    let nothing : IsPart h.channel h.left h.text Empty = subst (IsPart h.channel h.left h.text) is h.part in
    within_word channels line words state h byte Minus (λ lf. omega (arith, e, lf))
    (ap (λ t. t ++ byte ∷ []) nothing ∙ ap (λ b. b ∷ []) e)

-- a comma behind digits
pub comma_byte : (channels : List Channel)
    → AreChannels channels
    → (line : List ℕ) (words : List ℤ) (state : LineState)
    → LineSoFar channels line words state
    → (byte : ℕ) (negative : Bool) (magnitude : ℕ) (word : ℤ) (result : Option Progress) (new : LineState)
    → state.part ≡ Digits negative magnitude
    → word ≡ signed negative magnitude
    → byte ≡ 44
    → IfSome result (λ progress.
    (progress ≡ Word word)
    × (state.column + 1 < length channels)
    × (new ≡ record { column = state.column + 1; part = Empty }))
    → IfNone result (state.column + 1 ≡ length channels)
    → TakesByte channels line words byte result new
comma_byte channels are line words state h byte negative magnitude word (Some progress) new is worth e taken none =
    let part : IsPart h.channel h.left h.text (Digits negative magnitude) =
    subst (IsPart h.channel h.left h.text) is h.part in
    let is_word =
    subst (IsWord h.channel h.text) (sym worth) (word_of_digits h.channel h.left h.text negative magnitude part) in
    let here =
    comma_taken channels line words state h word h.left refl is_word
    (omega (arith, left_length channels line words state h, taken.1)) in
    subst (λ p. TakesByte channels line words byte (Some p) new) (sym taken.0)
    (subst (λ b. LineSoFar channels (line ++ b ∷ []) (words ++ word ∷ []) new) (sym e)
    (subst (LineSoFar channels (line ++ 44 ∷ []) (words ++ word ∷ [])) (sym taken.2) here))
comma_byte channels are line words state h byte negative magnitude word None new is worth e some none =
    let last = nil_from_length h.left (omega (arith, left_length channels line words state h, none)) in
    refused channels are line words state h byte (Digits negative magnitude) is
    (ap (step (At words h.channel h.left (Digits negative magnitude))) e
    ∙ ap (opened (words ++ signed negative magnitude ∷ [])) last)

-- more channels are left, so the row doesn't end here
not_last : (left : List Channel) (next : Reached) → 0 < length left → at_last left next ≡ None
not_last [] next some = absurd (omega (arith, some))
not_last (channel ∷ left) next some = refl

-- CR behind digits
pub cr_byte : (channels : List Channel)
    → AreChannels channels
    → (line : List ℕ) (words : List ℤ) (state : LineState)
    → LineSoFar channels line words state
    → (byte : ℕ) (negative : Bool) (magnitude : ℕ) (word : ℤ) (result : Option Progress) (new : LineState)
    → state.part ≡ Digits negative magnitude
    → word ≡ signed negative magnitude
    → byte ≡ 13
    → IfSome result (λ progress.
    (progress ≡ Within)
    × (state.column + 1 ≡ length channels)
    × (new ≡ record { column = state.column; part = Return word }))
    → IfNone result (state.column + 1 < length channels)
    → TakesByte channels line words byte result new
cr_byte channels are line words state h byte negative magnitude word (Some progress) new is worth e taken none =
    let part : IsPart h.channel h.left h.text (Digits negative magnitude) =
    subst (IsPart h.channel h.left h.text) is h.part in
    let is_word =
    subst (IsWord h.channel h.text) (sym worth) (word_of_digits h.channel h.left h.text negative magnitude part) in
    let last = nil_from_length h.left (omega (arith, left_length channels line words state h, taken.1)) in
    let here =
    within_word channels line words state h byte (Return word) (λ lf. omega (arith, e, lf))
    (h.text, ap (λ b. h.text ++ b ∷ []) e, is_word, last) in
    subst (λ p. TakesByte channels line words byte (Some p) new) (sym taken.0)
    (subst (LineSoFar channels (line ++ byte ∷ []) words) (sym taken.2) here)
cr_byte channels are line words state h byte negative magnitude word None new is worth e some none =
    refused channels are line words state h byte (Digits negative magnitude) is
    (ap (step (At words h.channel h.left (Digits negative magnitude))) e
    ∙ not_last h.left _ (omega (arith, left_length channels line words state h, none)))

-- LF behind digits
pub lf_byte : (channels : List Channel)
    → AreChannels channels
    → (line : List ℕ) (words : List ℤ) (state : LineState)
    → LineSoFar channels line words state
    → (byte : ℕ) (negative : Bool) (magnitude : ℕ) (word : ℤ) (result : Option Progress) (new : LineState)
    → state.part ≡ Digits negative magnitude
    → word ≡ signed negative magnitude
    → byte ≡ 10
    → IfSome result (λ progress.
    (progress ≡ Row word) × (state.column + 1 ≡ length channels) × (new ≡ record { column = 0; part = Empty }))
    → IfNone result (state.column + 1 < length channels)
    → TakesByte channels line words byte result new
lf_byte channels are line words state h byte negative magnitude word (Some progress) new is worth e taken none =
    let part : IsPart h.channel h.left h.text (Digits negative magnitude) =
    subst (IsPart h.channel h.left h.text) is h.part in
    let is_word =
    subst (IsWord h.channel h.text) (sym worth) (word_of_digits h.channel h.left h.text negative magnitude part) in
    let last = nil_from_length h.left (omega (arith, left_length channels line words state h, taken.1)) in
    let here = lf_taken channels line words state h word last is_word in
    subst (λ p. TakesByte channels line words byte (Some p) new) (sym taken.0)
    (subst (λ b. IsLine channels (line ++ b ∷ []) (words ++ word ∷ [])) (sym e) here, taken.2)
lf_byte channels are line words state h byte negative magnitude word None new is worth e some none =
    refused channels are line words state h byte (Digits negative magnitude) is
    (ap (step (At words h.channel h.left (Digits negative magnitude))) e
    ∙ not_last h.left _ (omega (arith, left_length channels line words state h, none)))

-- LF behind CR
pub crlf_byte : (channels : List Channel)
    → AreChannels channels
    → (line : List ℕ) (words : List ℤ) (state : LineState)
    → LineSoFar channels line words state
    → (byte : ℕ) (word other : ℤ) (result : Option Progress) (new : LineState)
    → state.part ≡ Return word
    → other ≡ word
    → byte ≡ 10
    → IfSome result (λ progress.
    (progress ≡ Row other) × (state.column + 1 ≡ length channels) × (new ≡ record { column = 0; part = Empty }))
    → IfNone result (state.column + 1 < length channels)
    → TakesByte channels line words byte result new
crlf_byte channels are line words state h byte word other (Some progress) new is same e taken none =
    let part : IsPart h.channel h.left h.text (Return word) = subst (IsPart h.channel h.left h.text) is h.part in
    let here = crlf_taken channels line words state h word part in
    subst (λ p. TakesByte channels line words byte (Some p) new) (sym (taken.0 ∙ ap Row same))
    (subst (λ b. IsLine channels (line ++ b ∷ []) (words ++ word ∷ [])) (sym e) here, taken.2)
crlf_byte channels are line words state h byte word other None new is same e some none =
    let part : IsPart h.channel h.left h.text (Return word) = subst (IsPart h.channel h.left h.text) is h.part in
    absurd (omega (arith, left_length channels line words state h, none, ap length part.3))

-- another byte behind CR
pub byte_behind_cr : (channels : List Channel)
    → AreChannels channels
    → (line : List ℕ) (words : List ℤ) (state : LineState)
    → LineSoFar channels line words state
    → (byte : ℕ) (word : ℤ)
    → state.part ≡ Return word
    → (byte ≡ 10 → ⊥)
    → BeginsRow channels (line ++ byte ∷ [])
    → ⊥
byte_behind_cr channels are line words state h byte word is no_lf =
    refused channels are line words state h byte (Return word) is
    (ap (λ b. cond b (at_last h.left (Ended (words ++ word ∷ []))) None) (ne_eqb byte 10 no_lf))
