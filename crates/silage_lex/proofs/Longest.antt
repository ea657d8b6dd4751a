-- No longer text begins where a token does.
use Rattle.std.proofs.Common.{◌≡◌, ℕ, zero, suc, ◌+◌, ◌-◌, ◌≤◌, ◌<◌, Bool, true, false, inl, inr, List, [], ◌∷◌, length}
use Rattle.std.proofs.Common.{drop, refl, sym, ap, ◌∙◌, arith, ◌&&◌, nat_le, Some}
use Rattle.std.specs.Prelude.{slice_index, slice_index_or, slice_range, Contains}
use Rattle.std.specs.List.{list_all}
use Rattle.std.proofs.lemmas.Bool.{cases_order, and_from, and_parts, eq-eqb, leb-true, cases_lt, both_ways}
use Rattle.std.proofs.lemmas.List.{length-take, length-drop, get_or_default}
use Rattle.std.proofs.lemmas.Option.{slice_get-get_or}
use Rattle.std.proofs.lemmas.List.Edits.{length-between, get_or-between}
use Rattle.silage_lex.specs.Bytes.{is_digit, is_letter, is_name_byte, begins_fraction}
use Rattle.silage_lex.specs.Texts.{is_word, is_digits, IsTokenText, symbols}
use Rattle.silage_lex.specs.Tokens.{IsLongest, IsSpan}
use Rattle.silage_lex.specs.declared.TokenKind.TheVariants.{Symbol}
use Rattle.silage_lex.specs.Scan.{stands_at, NoneBefore, IsFirstAt}
use Rattle.silage_lex.proofs.Pieces.{stands_Decides}
use Rattle.silage_lex.proofs.TextLemmas.{IsSymbolText, HasPointAt, symbol_row, row_passes, word_some, word_head}
use Rattle.silage_lex.proofs.TextLemmas.{word_byte, word_from, digits_some, digits_byte, point_place, symbol_text}
use Rattle.silage_lex.proofs.TextLemmas.{letter_is_name_byte, digit_is_name_byte, letter_no_digit, point_no_digit}

-- the byte of a span's text at k is the source's
pub span_byte : (bytes : List ℕ) (from to k at : ℕ)
    → from + k < to
    → at ≡ from + k
    → slice_index (slice_range bytes from to) k ≡ slice_index bytes at
span_byte bytes from to k at lt e = get_or-between bytes from to k 0 lt ∙ ap (slice_index bytes) (sym e)

pub span_first : (bytes : List ℕ) (from to : ℕ)
    → from < to
    → slice_index (slice_range bytes from to) 0 ≡ slice_index bytes from
span_first bytes from to lt = span_byte bytes from to 0 from (omega arith) (omega arith)

-- a longer text than a span's at the same byte has the span's bytes, and the one behind it
pub span_size : (bytes : List ℕ) (from end : ℕ) → end ≤ length bytes → length (slice_range bytes from end) ≡ end - from
span_size bytes from end within = length-between bytes from end within

pub word_longest : (bytes : List ℕ) (from to : ℕ)
    → from < to
    → is_letter (slice_index bytes from) ≡ true
    → is_name_byte (slice_index bytes to) ≡ false
    → IsLongest bytes from to
word_longest bytes from to rises letter stop = λ end more within text.
    let first = span_first bytes from end (omega arith) in
    let size = span_size bytes from end within in
    elim text [
      | inl word ↦
          let last = ap is_name_byte (span_byte bytes from end (to - from) to (omega arith) (omega arith)) in
          let passes = word_byte (slice_range bytes from end) word (to - from) (omega arith) in
          cc
      | inr (inl (inl digits)) ↦
          letter_no_digit (slice_index bytes from) letter
          (ap is_digit (sym first) ∙ digits_byte (slice_range bytes from end) digits 0 (omega arith))
      | inr (inl (inr pointed)) ↦
          let place = point_place pointed.0 pointed.1 (slice_range bytes from end) pointed.2 in
          letter_no_digit (slice_index bytes from) letter (ap is_digit (sym first) ∙ place.whole 0 place.before)
      | inr (inr symbol) ↦
          let head = symbol_text (slice_range bytes from end) symbol in
          let no = ap is_name_byte (sym first) ∙ head.no_name_byte in
          let yes = letter_is_name_byte (slice_index bytes from) letter in
          cc
    ]

-- the word at a place where a letter stands
pub record IsWordSpan (bytes : List ℕ) (from to : ℕ) : Type 0 where
  pub rises : from < to
  pub word : is_word (slice_range bytes from to) ≡ true
  pub longest : IsLongest bytes from to

pub word_span : (bytes : List ℕ) (from to : ℕ)
    → from ≤ to
    → to ≤ length bytes
    → is_letter (slice_index bytes from) ≡ true
    → list_all is_name_byte (slice_range bytes from to) ≡ true
    → is_name_byte (slice_index bytes to) ≡ false
    → IsWordSpan bytes from to
word_span bytes from to order within letter all stop =
    let size = span_size bytes from to within in
    let up = rises in
    record {
      rises = up;
      word =
          word_from (slice_range bytes from to) (omega arith) (ap is_letter (span_first bytes from to up) ∙ letter) all;
      longest = word_longest bytes from to up letter stop;
    }
  where
    rises : from < to
    rises = elim (cases_lt from to) [
      | inl lt ↦ lt
      | inr ge ↦
          let same : from ≡ to = omega arith in
          let yes = letter_is_name_byte (slice_index bytes from) letter in
          let no = ap (λ at. is_name_byte (slice_index bytes at)) same in
          absurd (cc)
    ]

fraction_from : (bytes : List ℕ) (at : ℕ)
    → slice_index bytes at ≡ 46
    → is_digit (slice_index bytes (at + 1)) ≡ true
    → begins_fraction bytes at ≡ true
fraction_from bytes at point digit = and_from _ _ (eq-eqb (slice_index bytes at) 46 point) digit

-- a longer number behind digits needs a further digit, or a point and a digit
pub digits_longest : (bytes : List ℕ) (from to : ℕ)
    → from < to
    → is_digits (slice_range bytes from to) ≡ true
    → to ≤ length bytes
    → is_digit (slice_index bytes to) ≡ false
    → begins_fraction bytes to ≡ false
    → IsLongest bytes from to
digits_longest bytes from to rises digits inside stop no_fraction = λ end more within text.
    let first = span_first bytes from end (omega arith) in
    let size = span_size bytes from end within in
    let digit = digit_at from (omega arith) rises in
    elim text [
      | inl word ↦
          letter_no_digit (slice_index bytes from)
          (ap is_letter (sym first) ∙ word_head (slice_range bytes from end) word) digit
      | inr (inl (inl longer)) ↦
          let last = ap is_digit (span_byte bytes from end (to - from) to (omega arith) (omega arith)) in
          let passes = digits_byte (slice_range bytes from end) longer (to - from) (omega arith) in
          cc
      | inr (inl (inr pointed)) ↦
          no_point end more within (length pointed.0)
          (point_place pointed.0 pointed.1 (slice_range bytes from end) pointed.2)
      | inr (inr symbol) ↦
          let head = symbol_text (slice_range bytes from end) symbol in
          let no = ap is_name_byte (sym first) ∙ head.no_name_byte in
          let yes = digit_is_name_byte (slice_index bytes from) digit in
          cc
    ]
  where
    digit_at : (at : ℕ) → from ≤ at → at < to → is_digit (slice_index bytes at) ≡ true
    digit_at at low high =
        ap is_digit (sym (span_byte bytes from to (at - from) at (omega arith) (omega arith)))
        ∙ digits_byte (slice_range bytes from to) digits (at - from)
        (let size = span_size bytes from to inside in omega arith)

    no_point : (end : ℕ)
        → to < end
        → end ≤ length bytes
        → (point : ℕ)
        → HasPointAt (slice_range bytes from end) point
        → ⊥
    no_point end more within point h =
        let size = span_size bytes from end within in
        let behind = h.behind in
        elim (cases_order point (to - from)) [
          | inl same ↦
              let is_point = sym (span_byte bytes from end point to (omega arith) (omega arith)) ∙ h.is_point in
              let next =
              ap is_digit (sym (span_byte bytes from end (point + 1) (to + 1) (omega arith) (omega arith)))
              ∙ h.fraction (point + 1) (omega arith) behind in
              let fraction = fraction_from bytes to is_point next in
              cc
          | inr (inl before) ↦
              let is_point = sym (span_byte bytes from end point (from + point) (omega arith) refl) ∙ h.is_point in
              point_no_digit (slice_index bytes (from + point)) is_point
              (digit_at (from + point) (omega arith) (omega arith))
          | inr (inr after) ↦
              let last =
              ap is_digit (sym (span_byte bytes from end (to - from) to (omega arith) (omega arith)))
              ∙ h.whole (to - from) after in
              cc
        ]

-- a longer number behind one with a point needs a further digit
pub pointed_longest : (bytes : List ℕ) (from to point : ℕ)
    → from < to
    → to ≤ length bytes
    → HasPointAt (slice_range bytes from to) point
    → is_digit (slice_index bytes to) ≡ false
    → IsLongest bytes from to
pointed_longest bytes from to point rises inside h stop = λ end more within text.
    let first = span_first bytes from end (omega arith) in
    let size = span_size bytes from end within in
    let own_size = span_size bytes from to inside in
    let behind = h.behind in
    let digit = ap is_digit (sym (span_first bytes from to rises)) ∙ h.whole 0 h.before in
    let is_point = sym (span_byte bytes from to point (from + point) (omega arith) refl) ∙ h.is_point in
    elim text [
      | inl word ↦
          letter_no_digit (slice_index bytes from)
          (ap is_letter (sym first) ∙ word_head (slice_range bytes from end) word) digit
      | inr (inl (inl digits)) ↦
          point_no_digit (slice_index bytes (from + point)) is_point
          (ap is_digit (sym (span_byte bytes from end point (from + point) (omega arith) refl))
          ∙ digits_byte (slice_range bytes from end) digits point (omega arith))
      | inr (inl (inr pointed)) ↦
          no_further end more within is_point (length pointed.0)
          (point_place pointed.0 pointed.1 (slice_range bytes from end) pointed.2)
      | inr (inr symbol) ↦
          let head = symbol_text (slice_range bytes from end) symbol in
          let no = ap is_name_byte (sym first) ∙ head.no_name_byte in
          let yes = digit_is_name_byte (slice_index bytes from) digit in
          cc
    ]
  where
    no_further : (end : ℕ)
        → to < end
        → end ≤ length bytes
        → slice_index bytes (from + point) ≡ 46
        → (other : ℕ)
        → HasPointAt (slice_range bytes from end) other
        → ⊥
    no_further end more within is_point other k =
        let size = span_size bytes from end within in
        let own_size = span_size bytes from to inside in
        let behind = h.behind in
        let other_behind = k.behind in
        elim (cases_order other point) [
          | inl same ↦
              let last =
              ap is_digit (sym (span_byte bytes from end (to - from) to (omega arith) (omega arith)))
              ∙ k.fraction (to - from) (omega arith) (omega arith) in
              cc
          | inr (inl before) ↦
              let other_point = sym (span_byte bytes from end other (from + other) (omega arith) refl) ∙ k.is_point in
              point_no_digit (slice_index bytes (from + other)) other_point
              (ap is_digit (sym (span_byte bytes from to other (from + other) (omega arith) refl))
              ∙ h.whole other before)
          | inr (inr after) ↦
              point_no_digit (slice_index bytes (from + point)) is_point
              (ap is_digit (sym (span_byte bytes from end point (from + point) (omega arith) refl))
              ∙ k.whole point after)
        ]

-- the table has the longest symbols first
abbrev pub falls : List (List ℕ) → Bool
falls [] = true
falls (x ∷ xs) = list_all (λ y. nat_le (length y) (length x)) (x ∷ xs) && falls xs

pub falling_sizes : (table : List (List ℕ))
    → falls table ≡ true
    → (n m : ℕ)
    → n ≤ m
    → m < length table
    → length (slice_index_or table m []) ≤ length (slice_index_or table n [])
falling_sizes [] h n m order lt = absurd (omega arith)
falling_sizes (x ∷ xs) h zero m order lt =
    leb-true _ _
    (row_passes (λ y. nat_le (length y) (length x)) (x ∷ xs)
    (and_parts (list_all (λ y. nat_le (length y) (length x)) (x ∷ xs)) (falls xs) h).0 m lt)
falling_sizes (x ∷ xs) h (suc n) zero order lt = absurd (omega arith)
falling_sizes (x ∷ xs) h (suc n) (suc m) order lt =
    falling_sizes xs (and_parts (list_all (λ y. nat_le (length y) (length x)) (x ∷ xs)) (falls xs) h).1 n m
    (omega arith) (omega arith)

-- a symbol that stands at a place is in the source, and is the text there
pub record StandsThere (bytes : List ℕ) (at to : ℕ) (symbol : List ℕ) : Type 0 where
  pub text : slice_range bytes at to ≡ symbol
  pub rises : at < to
  pub within : to ≤ length bytes

pub symbol_there : (bytes : List ℕ) (at : ℕ) (symbol : List ℕ)
    → IsSymbolText symbol
    → at ≤ length bytes
    → stands_at bytes at symbol ≡ true
    → StandsThere bytes at (at + length symbol) symbol
symbol_there bytes at symbol is_symbol inside stands =
    let some = is_symbol.some in
    let text = (stands_Decides bytes at symbol).0 stands in
    let size = ap length text in
    let taken = length-take (at + length symbol - at) (drop at bytes) in
    let dropped = length-drop at bytes in
    record { text = text; rises = omega arith; within = omega arith }

-- what begins with a byte of no name is no word and no number
symbol_only : (bytes : List ℕ) (at end : ℕ)
    → at < end
    → is_name_byte (slice_index bytes at) ≡ false
    → IsTokenText (slice_range bytes at end)
    → Contains symbols (slice_range bytes at end)
symbol_only bytes at end rises no_name_byte text =
    let first = span_first bytes at end rises in
    elim text [
      | inl word ↦ absurd (no_letter (ap is_letter (sym first) ∙ word_head (slice_range bytes at end) word))
      | inr (inl (inl digits)) ↦
          absurd (no_digit
          (ap is_digit (sym first)
          ∙ digits_byte (slice_range bytes at end) digits 0 (digits_some (slice_range bytes at end) digits)))
      | inr (inl (inr pointed)) ↦
          let place = point_place pointed.0 pointed.1 (slice_range bytes at end) pointed.2 in
          absurd (no_digit (ap is_digit (sym first) ∙ place.whole 0 place.before))
      | inr (inr symbol) ↦ symbol
    ]
  where
    no_letter : is_letter (slice_index bytes at) ≡ true → ⊥
    no_letter letter = let yes = letter_is_name_byte (slice_index bytes at) letter in cc

    no_digit : is_digit (slice_index bytes at) ≡ true → ⊥
    no_digit digit = let yes = digit_is_name_byte (slice_index bytes at) digit in cc

-- a text of the table that stands in the source does so by its row
row_stands : (bytes : List ℕ) (at end : ℕ)
    → end ≤ length bytes
    → at < end
    → (symbol : Contains symbols (slice_range bytes at end))
    → (length (slice_index_or symbols symbol.0 []) ≡ end - at)
    × (stands_at bytes at (slice_index_or symbols symbol.0 []) ≡ true)
row_stands bytes at end within rises symbol =
    let row : slice_index_or symbols symbol.0 [] ≡ slice_range bytes at end =
    get_or_default symbols symbol.0 [] (slice_range bytes at end) symbol.1 ∙ symbol.2 in
    let size = ap length row ∙ span_size bytes at end within in
    let whole : at + length (slice_index_or symbols symbol.0 []) ≡ end = omega arith in
    (size, (stands_Decides bytes at (slice_index_or symbols symbol.0 [])).1 (ap (slice_range bytes at) whole ∙ sym row))

pub symbol_longest : (bytes : List ℕ) (at n : ℕ)
    → at ≤ length bytes
    → IsFirstAt bytes at n
    → IsLongest bytes at (at + length (slice_index_or symbols n []))
symbol_longest bytes at n inside h = λ end more within text.
    let is_symbol = symbol_row n h.listed in
    let some = is_symbol.some in
    let there = symbol_there bytes at (slice_index_or symbols n []) is_symbol inside h.stands in
    let head =
    sym (span_first bytes at (at + length (slice_index_or symbols n [])) there.rises)
    ∙ ap (λ xs. slice_index xs 0) there.text in
    longer end more within (symbol_only bytes at end (omega arith) (ap is_name_byte head ∙ is_symbol.no_name_byte) text)
  where
    longer : (end : ℕ)
        → at + length (slice_index_or symbols n []) < end
        → end ≤ length bytes
        → Contains symbols (slice_range bytes at end)
        → ⊥
    longer end more within symbol =
        let row = row_stands bytes at end within (omega arith) symbol in
        let size = row.0 in
        elim (cases_lt symbol.0 n) [
          | inl before ↦ both_ways _ (h.first symbol.0 before) row.1
          | inr after ↦ let falling = falling_sizes symbols refl n symbol.0 after symbol.1 in omega arith
        ]

-- the first symbol of the table that stands at a place is a token there
pub symbol_span : (bytes : List ℕ) (at n : ℕ)
    → at ≤ length bytes
    → IsFirstAt bytes at n
    → IsSpan bytes (Symbol n) at (at + length (slice_index_or symbols n []))
symbol_span bytes at n inside h =
    let there = symbol_there bytes at (slice_index_or symbols n []) (symbol_row n h.listed) inside h.stands in
    record {
      rises = there.rises;
      within = there.within;
      text = slice_get-get_or symbols n [] h.listed ∙ ap Some (sym there.text);
      longest = symbol_longest bytes at n inside h;
      ends = tt;
    }

-- a token text has a byte
pub token_text_some : (text : List ℕ) → IsTokenText text → 0 < length text
token_text_some text h =
    elim h [
      | inl word ↦ word_some text word
      | inr (inl (inl digits)) ↦ digits_some text digits
      | inr (inl (inr pointed)) ↦
          let place = point_place pointed.0 pointed.1 text pointed.2 in let behind = place.behind in omega arith
      | inr (inr symbol) ↦ let is_symbol = symbol_text text symbol in is_symbol.some
    ]

-- where no name byte and no symbol stands, no token begins
pub no_token : (bytes : List ℕ) (at : ℕ)
    → is_name_byte (slice_index bytes at) ≡ false
    → NoneBefore bytes at (length symbols)
    → (end : ℕ)
    → end ≤ length bytes
    → ¬ IsTokenText (slice_range bytes at end)
no_token bytes at no_name_byte none end within = λ text.
    let some = token_text_some (slice_range bytes at end) text in
    let size = span_size bytes at end within in
    let rises : at < end = omega arith in
    let symbol = symbol_only bytes at end rises no_name_byte text in
    both_ways _ (none symbol.0 symbol.1) (row_stands bytes at end within rises symbol).1
