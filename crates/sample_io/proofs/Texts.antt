-- Rows' texts from the texts of their words, and how a line so far goes on to a row.
use Rattle.std.proofs.Common.{◌≡◌, ℕ, true, false, List, [], ◌∷◌, ◌++◌, map, All, ℤ, pos, refl, ap, sym, ◌∙◌, subst}
use Rattle.std.proofs.Common.{append_assoc, arith, inl, inr, ◌⊎◌}
use Rattle.std.specs.List.{flat_map, join_with_byte}
use Rattle.std.proofs.lemmas.List.{append-nil, length-append}
use Rattle.std.proofs.lemmas.List.Elements.{All-head, All-tail}
use Rattle.sample_io.specs.declared.channel.Channel.{Channel}
use Rattle.sample_io.specs.declared.read.LineState.{LineState}
use Rattle.sample_io.specs.declared.read.Part.{Part}
use Rattle.sample_io.specs.declared.read.Part.TheVariants.{Empty, Minus, Digits, Return}
use Rattle.sample_io.specs.Channels.{IsChannel, AreChannels}
use Rattle.sample_io.specs.Samples.{signed, IsWord, AreWords, no_words, one_more, RowText, BeginsRow}
use Rattle.sample_io.specs.Private.Begun.{IsPart, with_comma, LineSoFar}
use Rattle.sample_io.proofs.Runs.{of_middle, of_back, join_more}

pub AreWords-append :
    (channels : List Channel) (texts : List (List ℕ)) (words : List ℤ) (others : List Channel)
    (more_texts : List (List ℕ)) (more_words : List ℤ)
    → AreWords channels texts words
    → AreWords others more_texts more_words
    → AreWords (channels ++ others) (texts ++ more_texts) (words ++ more_words)
AreWords-append channels texts words others more_texts more_words no_words behind = behind
AreWords-append channels texts words others more_texts more_words
    (one_more {channels = cs} {texts = ts} {words = ws} here rest) behind =
    one_more here (AreWords-append cs ts ws others more_texts more_words rest behind)

-- texts with a comma behind each, and then the texts that are joined
join-append : (texts : List (List ℕ)) (text : List ℕ) (more : List (List ℕ))
    → join_with_byte 44 (texts ++ text ∷ more) ≡ flat_map with_comma texts ++ join_with_byte 44 (text ∷ more)
join-append [] text more = refl
join-append (first ∷ texts) text more =
    join_more first (texts ++ text ∷ more) (omega (arith, length-append texts (text ∷ more)))
    ∙ ap (λ l. with_comma first ++ l) (join-append texts text more)
    ∙ sym (append_assoc (with_comma first) (flat_map with_comma texts) (join_with_byte 44 (text ∷ more)))

-- words that were read, a word, and words behind it are a row
pub row_text :
    (done : List Channel) (texts : List (List ℕ)) (words : List ℤ) (channel : Channel) (text : List ℕ) (word : ℤ)
    (left : List Channel) (more : List (List ℕ)) (others : List ℤ)
    → AreWords done texts words
    → IsWord channel text word
    → AreWords left more others
    → RowText (done ++ channel ∷ left) (flat_map with_comma texts ++ join_with_byte 44 (text ∷ more))
    (words ++ word ∷ others)
row_text done texts words channel text word left more others before here behind = record {
  texts = texts ++ text ∷ more;
  text_is = sym (join-append texts text more);
  words = AreWords-append done texts words (channel ∷ left) (text ∷ more) (word ∷ others) before (one_more here behind);
}

-- `0` is a word of each channel
zero_word : (channel : Channel) → IsChannel channel → IsWord channel (48 ∷ []) (pos 0)
zero_word channel is = record {
  negative = false;
  digits = 48 ∷ [];
  text_is = refl;
  numeral = (omega arith, (omega arith, tt));
  word_is = refl;
  in_channel = (is.low_zero, is.zero_high);
}

zero_texts : List Channel → List (List ℕ)
zero_texts left = map (λ channel. 48 ∷ []) left

zeros : List Channel → List ℤ
zeros left = map (λ channel. pos 0) left

-- a comma and `0` for each channel
commas_and_zeros : List Channel → List ℕ
commas_and_zeros left = flat_map (λ channel. 44 ∷ 48 ∷ []) left

zero_words : (left : List Channel) → All IsChannel left → AreWords left (zero_texts left) (zeros left)
unfolding zero_texts zeros
zero_words [] all = no_words
zero_words (channel ∷ left) all =
    one_more (zero_word channel (All-head IsChannel channel left all))
    (zero_words left (All-tail IsChannel channel left all))

zeros_joined : (text : List ℕ) (left : List Channel)
    → join_with_byte 44 (text ∷ zero_texts left) ≡ text ++ commas_and_zeros left
unfolding zero_texts commas_and_zeros
zeros_joined text [] = sym (append-nil text)
zeros_joined text (channel ∷ left) = ap (λ l. text ++ 44 ∷ l) (zeros_joined (48 ∷ []) left)

-- what there is of a word, and bytes that make it whole
record Completed (channel : Channel) (text : List ℕ) : Type 0 where
  tail : List ℕ
  word : ℤ
  is_word : IsWord channel (text ++ tail) word

completed : (channel : Channel) (left : List Channel) (text : List ℕ) (part : Part)
    → IsChannel channel
    → IsPart channel left text part
    → Completed channel text
    ⊎ ((whole : List ℕ) × (word : ℤ) × (text ≡ whole ++ 13 ∷ []) × IsWord channel whole word × (left ≡ []))
completed channel left text Empty is h = inl (record {
  tail = 48 ∷ [];
  word = pos 0;
  is_word = subst (λ t. IsWord channel (t ++ 48 ∷ []) (pos 0)) (sym h) (zero_word channel is);
})
completed channel left text Minus is h = inl (record {
  tail = 48 ∷ [];
  word = pos 0;
  is_word = subst (λ t. IsWord channel (t ++ 48 ∷ []) (pos 0)) (sym h) (record {
    negative = true;
    digits = 48 ∷ [];
    text_is = refl;
    numeral = (omega arith, (omega arith, tt));
    word_is = refl;
    in_channel = (is.low_zero, is.zero_high);
  });
})
completed channel left text (Digits negative magnitude) is h = inl (record {
  tail = [];
  word = signed negative magnitude;
  is_word = record {
    negative = negative;
    digits = h.0;
    text_is = append-nil text ∙ h.1;
    numeral = h.2;
    word_is = ap (signed negative) h.3;
    in_channel = h.4;
  };
})
completed channel left text (Return word) is h = inr (h.0, word, h.1, h.2, h.3)

-- each line so far begins a row
pub so_far_begins : (channels : List Channel)
    → AreChannels channels
    → (line : List ℕ) (words : List ℤ) (state : LineState)
    → LineSoFar channels line words state
    → BeginsRow channels line
so_far_begins channels are line words state h =
    let all : All IsChannel (h.done ++ h.channel ∷ h.left) = subst (All IsChannel) h.channels_are are.each in
    let is = of_middle IsChannel h.done h.channel h.left all in
    let front = flat_map with_comma h.texts in
    elim (completed h.channel h.left h.text state.part is h.part) [
      | inl whole ↦
          let text = front ++ join_with_byte 44 ((h.text ++ whole.tail) ∷ zero_texts h.left) in
          let more = whole.tail ++ (commas_and_zeros h.left ++ 10 ∷ []) in
          let arranged : (front ++ h.text) ++ more
          ≡ (front ++ ((h.text ++ whole.tail) ++ commas_and_zeros h.left)) ++ 10 ∷ [] = simp append_assoc in (
            more,
            words ++ whole.word ∷ zeros h.left,
            record {
              text = text;
              end = 10 ∷ [];
              line_is =
                  ap (λ l. l ++ more) h.line_is ∙ arranged
                  ∙ ap (λ l. (front ++ l) ++ 10 ∷ []) (sym (zeros_joined (h.text ++ whole.tail) h.left));
              row_text = subst (λ l. RowText l text (words ++ whole.word ∷ zeros h.left)) (sym h.channels_are)
                  (row_text h.done h.texts words h.channel (h.text ++ whole.tail) whole.word h.left (zero_texts h.left)
                  (zeros h.left) h.whole whole.is_word
                  (zero_words h.left (of_back IsChannel h.done h.channel h.left all)));
              line_end = inl refl;
            },
          )
      | inr returned ↦
          let arranged : (front ++ (returned.0 ++ 13 ∷ [])) ++ 10 ∷ [] ≡ (front ++ returned.0) ++ 13 ∷ 10 ∷ [] =
          simp append_assoc in (
            10 ∷ [],
            words ++ returned.1 ∷ [],
            record {
              text = front ++ returned.0;
              end = 13 ∷ 10 ∷ [];
              line_is = ap (λ l. l ++ 10 ∷ []) (h.line_is ∙ ap (λ t. front ++ t) returned.2) ∙ arranged;
              row_text =
                  subst (λ l. RowText l (front ++ returned.0) (words ++ returned.1 ∷ []))
                  (sym (h.channels_are ∙ ap (λ l. h.done ++ h.channel ∷ l) returned.4))
                  (row_text h.done h.texts words h.channel returned.0 returned.1 [] [] [] h.whole returned.3 no_words);
              line_end = inr refl;
            },
          )
    ]
