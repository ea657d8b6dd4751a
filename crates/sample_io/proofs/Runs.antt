-- The machine on the texts of words, of rows and of lines.
use Rattle.std.proofs.Common.{◌≡◌, ℕ, ◌+◌, ◌*◌, ◌<◌, ◌≤◌, Bool, true, false, List, [], ◌∷◌, ◌++◌, length, take, All, ℤ}
use Rattle.std.proofs.Common.{Option, Some, None, refl, ap, sym, ◌∙◌, subst, append_assoc, arith, inl, inr}
use Rattle.std.specs.Char.{digit_value}
use Rattle.std.specs.List.{flat_map, join_with_byte}
use Rattle.std.specs.Option.{option_and_then}
use Rattle.std.specs.Str.Parse.{AllDigits, IsNumeral, digits_value, digits_value_after}
use Rattle.std.proofs.lemmas.Int.{ints}
use Rattle.std.proofs.lemmas.List.{append-nil, length-append}
use Rattle.std.proofs.lemmas.List.Elements.{All-head, All-tail, All-same, All-take}
use Rattle.std.proofs.Math.Seq.{take-append_seam, get_or-append_seam}
use Rattle.sample_io.specs.declared.channel.Channel.{Channel}
use Rattle.sample_io.specs.declared.read.LineState.{LineState}
use Rattle.sample_io.specs.declared.read.Part.{Part}
use Rattle.sample_io.specs.declared.read.Part.TheVariants.{Empty, Minus, Digits, Return}
use Rattle.sample_io.specs.Channels.{IsInChannel, IsChannel, AreChannels}
use Rattle.sample_io.specs.Samples.{signed, signed_text, IsWord, AreWords, no_words, one_more, RowText, IsLine}
use Rattle.sample_io.specs.Private.Begun.{IsPart, with_comma, LineSoFar}
use Rattle.sample_io.proofs.Machine.{Reached, At, Ended, opened, at_last, step, run, run-append, run_line, run_on}
use Rattle.sample_io.proofs.Machine.{run_line_on, digit_taken, no_mark}

-- digits behind a number make it no smaller
after_ge : (digits : List ℕ) (n : ℕ) → n ≤ digits_value_after 10 n digits
after_ge [] n = omega arith
after_ge (d ∷ ds) n = let more = after_ge ds (n * 10 + digit_value d) in omega arith

-- a number of the same sign that is nearer to zero lies in the channel too
nearer : (channel : Channel)
    → IsChannel channel
    → (negative : Bool) (n m : ℕ)
    → n ≤ m
    → IsInChannel channel (signed negative m)
    → IsInChannel channel (signed negative n)
nearer channel is true n m le h = (omega (arith, ints, is.low_zero, h.0), omega (arith, ints, is.zero_high))
nearer channel is false n m le h = (omega (arith, ints, is.low_zero), omega (arith, ints, is.zero_high, h.1))

-- digits that stay in the channel
digits_run : (words : List ℤ) (channel : Channel) (left : List Channel)
    → IsChannel channel
    → (negative : Bool) (magnitude : ℕ) (digits : List ℕ)
    → AllDigits 10 digits
    → IsInChannel channel (signed negative (digits_value_after 10 magnitude digits))
    → run (At words channel left (Digits negative magnitude)) digits
    ≡ Some (At words channel left (Digits negative (digits_value_after 10 magnitude digits)))
digits_run words channel left is negative magnitude [] all h = refl
digits_run words channel left is negative magnitude (d ∷ ds) all h =
    let grown = magnitude * 10 + digit_value d in
    let near = nearer channel is negative grown (digits_value_after 10 grown ds) (after_ge ds grown) h in
    let here : step (At words channel left (Digits negative magnitude)) d
    ≡ Some (At words channel left (Digits negative grown)) =
    rw (no_mark d 44 all.0 (omega arith), no_mark d 13 all.0 (omega arith), no_mark d 10 all.0 (omega arith))
    (digit_taken words channel left negative magnitude d (all.0, near)) in
    ap (λ o. option_and_then (λ s. run s ds) o) here ∙ digits_run words channel left is negative grown ds all.1 h

-- a numeral, with a minus in front or without
numeral_run : (words : List ℤ) (channel : Channel) (left : List Channel)
    → IsChannel channel
    → (negative : Bool) (digits : List ℕ)
    → IsNumeral 10 digits
    → IsInChannel channel (signed negative (digits_value 10 digits))
    → run (At words channel left Empty) (signed_text negative digits)
    ≡ Some (At words channel left (Digits negative (digits_value 10 digits)))
numeral_run words channel left is negative [] numeral h = absurd (omega (arith, numeral.0))
numeral_run words channel left is true (d ∷ ds) numeral h =
    let first = 0 * 10 + digit_value d in
    let near = nearer channel is true first (digits_value_after 10 first ds) (after_ge ds first) h in
    ap (λ o. option_and_then (λ s. run s ds) o) (digit_taken words channel left true 0 d (numeral.1.0, near))
    ∙ digits_run words channel left is true first ds numeral.1.1 h
numeral_run words channel left is false (d ∷ ds) numeral h =
    let first = 0 * 10 + digit_value d in
    let near = nearer channel is false first (digits_value_after 10 first ds) (after_ge ds first) h in
    let here : step (At words channel left Empty) d ≡ Some (At words channel left (Digits false first)) =
    rw (no_mark d 45 numeral.1.0 (omega arith)) (digit_taken words channel left false 0 d (numeral.1.0, near)) in
    ap (λ o. option_and_then (λ s. run s ds) o) here ∙ digits_run words channel left is false first ds numeral.1.1 h

-- a word's text leads to its number
pub record WordRun (words : List ℤ) (channel : Channel) (left : List Channel) (text : List ℕ) (word : ℤ) : Type 0 where
  pub negative : Bool
  pub magnitude : ℕ
  pub led : run (At words channel left Empty) text ≡ Some (At words channel left (Digits negative magnitude))
  pub word_is : signed negative magnitude ≡ word

pub word_run : (words : List ℤ) (channel : Channel) (left : List Channel)
    → IsChannel channel
    → (text : List ℕ) (word : ℤ)
    → IsWord channel text word
    → WordRun words channel left text word
word_run words channel left is text word h = record {
  negative = h.negative;
  magnitude = digits_value 10 h.digits;
  led =
      ap (run (At words channel left Empty)) h.text_is
      ∙ numeral_run words channel left is h.negative h.digits h.numeral
      (subst (IsInChannel channel) h.word_is h.in_channel);
  word_is = sym h.word_is;
}

-- what there is of a word leads to its state
pub part_run : (words : List ℤ) (channel : Channel) (left : List Channel)
    → IsChannel channel
    → (text : List ℕ) (part : Part)
    → IsPart channel left text part
    → run (At words channel left Empty) text ≡ Some (At words channel left part)
part_run words channel left is text Empty h = ap (run (At words channel left Empty)) h
part_run words channel left is text Minus h = ap (run (At words channel left Empty)) h
part_run words channel left is text (Digits negative magnitude) h =
    let in_channel = subst (λ n. IsInChannel channel (signed negative n)) h.3 h.4 in
    ap (run (At words channel left Empty)) h.1 ∙ numeral_run words channel left is negative h.0 h.2 in_channel
    ∙ ap (λ n. Some (At words channel left (Digits negative n))) (sym h.3)
part_run words channel left is text (Return word) h =
    let ended = word_run words channel left is h.0 word h.2 in
    let last : step (At words channel left (Digits ended.negative ended.magnitude)) 13
    ≡ Some (At words channel left (Return word)) =
    ap (λ l. at_last l (At words channel left (Return (signed ended.negative ended.magnitude)))) h.3
    ∙ ap (λ z. Some (At words channel left (Return z))) ended.word_is in
    ap (run (At words channel left Empty)) h.1
    ∙ run_on (At words channel left Empty) (At words channel left (Digits ended.negative ended.magnitude)) h.0 (13 ∷ [])
    ended.led
    ∙ ap (λ o. option_and_then (λ s. run s []) o) last

-- what a state reaches with no more bytes is that state
run_none : (o : Option Reached) → option_and_then (λ s. run s []) o ≡ o
run_none None = refl
run_none (Some reached) = refl

-- whole words with a comma behind each
words_run :
    (before : List ℤ) (done : List Channel) (texts : List (List ℕ)) (words : List ℤ) (channel : Channel)
    (left : List Channel)
    → All IsChannel done
    → AreWords done texts words
    → option_and_then (λ first. run first (flat_map with_comma texts)) (opened before (done ++ channel ∷ left))
    ≡ Some (At (before ++ words) channel left Empty)
words_run before done texts words channel left are no_words =
    ap (λ l. Some (At l channel left Empty)) (sym (append-nil before))
words_run before done texts words channel left are
    (one_more {channel = c} {channels = cs} {text = text} {texts = others} {word = word} {words = more} here rest) =
    let behind = cs ++ channel ∷ left in
    let first = At before c behind Empty in
    let ended = word_run before c behind (All-head IsChannel c cs are) text word here in
    let next : option_and_then (λ s. run s []) (opened (before ++ signed ended.negative ended.magnitude ∷ []) behind)
    ≡ opened (before ++ word ∷ []) behind =
    run_none (opened (before ++ signed ended.negative ended.magnitude ∷ []) behind)
    ∙ ap (λ z. opened (before ++ z ∷ []) behind) ended.word_is in
    let word_and_comma : run first (with_comma text) ≡ opened (before ++ word ∷ []) behind =
    run_on first (At before c behind (Digits ended.negative ended.magnitude)) text (44 ∷ []) ended.led ∙ next in
    run-append first (with_comma text) (flat_map with_comma others)
    ∙ ap (λ o. option_and_then (λ s. run s (flat_map with_comma others)) o) word_and_comma
    ∙ words_run (before ++ word ∷ []) cs others more channel left (All-tail IsChannel c cs are) rest
    ∙ ap (λ l. Some (At l channel left Empty)) (append_assoc before (word ∷ []) more)

-- there are as many texts as channels
words_length : (channels : List Channel) (texts : List (List ℕ)) (words : List ℤ)
    → AreWords channels texts words
    → length texts ≡ length channels
words_length channels texts words no_words = refl
words_length channels texts words (one_more {channels = cs} {texts = others} {words = more} here rest) =
    let same = words_length cs others more rest in omega arith

-- a comma stands behind the first of several texts
pub join_more : (text : List ℕ) (texts : List (List ℕ))
    → 0 < length texts
    → join_with_byte 44 (text ∷ texts) ≡ with_comma text ++ join_with_byte 44 texts
join_more text [] some = absurd (omega arith)
join_more text (next ∷ texts) some = sym (append_assoc text (44 ∷ []) (join_with_byte 44 (next ∷ texts)))

-- a row's words, the last one apart
record RowEnd (channels : List Channel) (texts : List (List ℕ)) (row : List ℤ) : Type 0 where
  done : List Channel
  channel : Channel
  others : List (List ℕ)
  text : List ℕ
  words : List ℤ
  word : ℤ
  channels_are : channels ≡ done ++ channel ∷ []
  row_is : row ≡ words ++ word ∷ []
  joined : join_with_byte 44 texts ≡ flat_map with_comma others ++ text
  whole : AreWords done others words
  last : IsWord channel text word

row_end : (channel : Channel) (channels : List Channel) (texts : List (List ℕ)) (row : List ℤ)
    → AreWords (channel ∷ channels) texts row
    → RowEnd (channel ∷ channels) texts row
row_end channel [] texts row (one_more {text = text} {word = word} here no_words) = record {
  done = [];
  channel = channel;
  others = [];
  text = text;
  words = [];
  word = word;
  channels_are = refl;
  row_is = refl;
  joined = refl;
  whole = no_words;
  last = here;
}
row_end channel (next ∷ channels) texts row
    (one_more {text = text} {texts = others} {word = word} {words = more} here rest) =
    let end = row_end next channels others more rest in
    record {
      done = channel ∷ end.done;
      channel = end.channel;
      others = text ∷ end.others;
      text = end.text;
      words = word ∷ end.words;
      word = end.word;
      channels_are = ap (λ l. channel ∷ l) end.channels_are;
      row_is = ap (λ l. word ∷ l) end.row_is;
      joined =
          join_more text others (omega (arith, words_length (next ∷ channels) others more rest))
          ∙ ap (λ l. with_comma text ++ l) end.joined
          ∙ sym (append_assoc (with_comma text) (flat_map with_comma end.others) end.text);
      whole = one_more here end.whole;
      last = end.last;
    }

-- what holds of each element of a list holds of those in front of a place, and at the place
pub of_front : {X : Type 0} (P : X → Type 0) (xs : List X) (y : X) (ys : List X) → All P (xs ++ y ∷ ys) → All P xs
of_front P xs y ys all =
    All-same P xs (take (length xs) (xs ++ y ∷ ys)) (sym (take-append_seam xs (y ∷ ys)))
    (All-take P (length xs) (xs ++ y ∷ ys) all)

pub of_middle : {X : Type 0} (P : X → Type 0) (xs : List X) (y : X) (ys : List X) → All P (xs ++ y ∷ ys) → P y
of_middle P xs y ys all =
    subst P (get_or-append_seam xs y ys y) (all (length xs) y (omega (arith, length-append xs (y ∷ ys))))

pub of_back : {X : Type 0} (P : X → Type 0) (xs : List X) (y : X) (ys : List X) → All P (xs ++ y ∷ ys) → All P ys
of_back P [] y ys all = All-tail P y ys all
of_back P (x ∷ xs) y ys all = of_back P xs y ys (All-tail P x (xs ++ y ∷ ys) all)

-- a row's text leads to its last word
pub record TextRun (channels : List Channel) (text : List ℕ) (row : List ℤ) : Type 0 where
  pub words : List ℤ
  pub channel : Channel
  pub negative : Bool
  pub magnitude : ℕ
  pub led : run_line channels text ≡ Some (At words channel [] (Digits negative magnitude))
  pub row_is : row ≡ words ++ signed negative magnitude ∷ []

pub text_run : (channels : List Channel)
    → AreChannels channels
    → (text : List ℕ) (row : List ℤ)
    → RowText channels text row
    → TextRun channels text row
text_run [] are text row h = absurd (omega (arith, are.some))
text_run (channel ∷ channels) are text row h =
    let end = row_end channel channels h.texts row h.words in
    let all : All IsChannel (end.done ++ end.channel ∷ []) = subst (All IsChannel) end.channels_are are.each in
    let before =
    words_run [] end.done end.others end.words end.channel [] (of_front IsChannel end.done end.channel [] all)
    end.whole in
    let ended =
    word_run end.words end.channel [] (of_middle IsChannel end.done end.channel [] all) end.text end.word
    end.last in
    record {
      words = end.words;
      channel = end.channel;
      negative = ended.negative;
      magnitude = ended.magnitude;
      led = ap (run_line (channel ∷ channels)) (h.text_is ∙ end.joined)
          ∙ ap (λ l. run_line l (flat_map with_comma end.others ++ end.text)) end.channels_are
          ∙ run_line_on (end.done ++ end.channel ∷ []) (At end.words end.channel [] Empty)
          (flat_map with_comma end.others) end.text before
          ∙ ended.led;
      row_is = end.row_is ∙ ap (λ z. end.words ++ z ∷ []) (sym ended.word_is);
    }

-- a row's text and an end of line end the line as the row
pub line_run : (channels : List Channel)
    → AreChannels channels
    → (line : List ℕ) (row : List ℤ)
    → IsLine channels line row
    → run_line channels line ≡ Some (Ended row)
line_run channels are line row h =
    let read = text_run channels are h.text row h.row_text in
    let ends : run (At read.words read.channel [] (Digits read.negative read.magnitude)) h.end
    ≡ Some (Ended (read.words ++ signed read.negative read.magnitude ∷ [])) =
    elim h.line_end [
      | inl lf ↦ ap (run (At read.words read.channel [] (Digits read.negative read.magnitude))) lf
      | inr crlf ↦ ap (run (At read.words read.channel [] (Digits read.negative read.magnitude))) crlf
    ] in
    ap (run_line channels) h.line_is
    ∙ run_line_on channels (At read.words read.channel [] (Digits read.negative read.magnitude)) h.text h.end read.led
    ∙ ends
    ∙ ap (λ l. Some (Ended l)) (sym read.row_is)

-- the line so far leads to its state
pub so_far_run : (channels : List Channel)
    → AreChannels channels
    → (line : List ℕ) (words : List ℤ) (state : LineState) (h : LineSoFar channels line words state)
    → run_line channels line ≡ Some (At words h.channel h.left state.part)
so_far_run channels are line words state h =
    let all : All IsChannel (h.done ++ h.channel ∷ h.left) = subst (All IsChannel) h.channels_are are.each in
    let before =
    words_run [] h.done h.texts words h.channel h.left (of_front IsChannel h.done h.channel h.left all) h.whole in
    ap (run_line channels) h.line_is
    ∙ ap (λ l. run_line l (flat_map with_comma h.texts ++ h.text)) h.channels_are
    ∙ run_line_on (h.done ++ h.channel ∷ h.left) (At words h.channel h.left Empty) (flat_map with_comma h.texts) h.text
    before
    ∙ part_run words h.channel h.left (of_middle IsChannel h.done h.channel h.left all) h.text state.part h.part
