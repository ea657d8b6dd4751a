-- What the bytes of a token's text are.
use Rattle.std.proofs.Common.{◌≡◌, ℕ, suc, ◌+◌, ◌-◌, ◌<◌, Bool, true, false, ◌&&◌, ◌||◌, not, inl, inr, List, [], ◌∷◌}
use Rattle.std.proofs.Common.{◌++◌, length, refl, sym, ap, ◌∙◌, subst, arith, nat_eq, nat_lt, cond}
use Rattle.std.specs.Prelude.{slice_index, slice_index_or, Contains}
use Rattle.std.specs.List.{list_all}
use Rattle.std.proofs.lemmas.Bool.{and_parts, and_from, not-true, ltb-true}
use Rattle.std.proofs.lemmas.Bool.Decides.{nat_tests}
use Rattle.std.proofs.lemmas.List.{get_or_append_left, get_or_at, get_or-append_right, length-append, get_or_default}
use Rattle.std.proofs.lemmas.List.Sums.{AllPass-from_list_all, sum_by-append}
use Rattle.silage_lex.specs.Bytes.{is_blank, is_digit, is_letter, is_name_byte}
use Rattle.silage_lex.specs.Texts.{is_word, is_digits, IsPointed, IsNumber, digit_count, symbols}

pub letter_is_name_byte : (b : ℕ) → is_letter b ≡ true → is_name_byte b ≡ true
letter_is_name_byte b h = ap (λ v. v || is_digit b) h

pub digit_is_name_byte : (b : ℕ) → is_digit b ≡ true → is_name_byte b ≡ true
digit_is_name_byte b h = elim (is_letter b) as (λ v. (v || is_digit b) ≡ true) [ true ↦ refl | false ↦ h ]

pub letter_no_digit : (b : ℕ) → is_letter b ≡ true → is_digit b ≡ true → ⊥
letter_no_digit b h k = grind (arith, nat_tests)

pub point_no_digit : (b : ℕ) → b ≡ 46 → is_digit b ≡ true → ⊥
point_no_digit b h k = grind (arith, nat_tests)

-- a word: its first byte, and each of its bytes
pub word_some : (text : List ℕ) → is_word text ≡ true → 0 < length text
word_some [] h = absurd (cc)
word_some (b ∷ bs) h = omega arith

pub word_head : (text : List ℕ) → is_word text ≡ true → is_letter (slice_index text 0) ≡ true
word_head [] h = absurd (cc)
word_head (b ∷ bs) h = (and_parts (is_letter b) (list_all is_name_byte bs) h).0

pub word_byte : (text : List ℕ)
    → is_word text ≡ true
    → (k : ℕ)
    → k < length text
    → is_name_byte (slice_index text k) ≡ true
word_byte [] h k lt = absurd (cc)
word_byte (b ∷ bs) h k lt =
    let parts = and_parts (is_letter b) (list_all is_name_byte bs) h in
    AllPass-from_list_all is_name_byte (b ∷ bs) (and_from _ _ (letter_is_name_byte b parts.0) parts.1) k 0 lt

-- digits
pub digits_some : (text : List ℕ) → is_digits text ≡ true → 0 < length text
digits_some [] h = absurd (cc)
digits_some (b ∷ bs) h = omega arith

pub digits_all : (text : List ℕ) → is_digits text ≡ true → list_all is_digit text ≡ true
digits_all [] h = refl
digits_all (b ∷ bs) h = h

pub digits_from : (text : List ℕ) → 0 < length text → list_all is_digit text ≡ true → is_digits text ≡ true
digits_from [] some h = absurd (omega arith)
digits_from (b ∷ bs) some h = h

pub digits_byte : (text : List ℕ)
    → is_digits text ≡ true
    → (k : ℕ)
    → k < length text
    → is_digit (slice_index text k) ≡ true
digits_byte text h k lt = AllPass-from_list_all is_digit text (digits_all text h) k 0 lt

-- a number with a point, by the place of its point
pub record HasPointAt (text : List ℕ) (point : ℕ) : Type 0 where
  pub before : 0 < point
  pub behind : point + 1 < length text
  pub is_point : slice_index text point ≡ 46
  pub whole : (k : ℕ) → k < point → is_digit (slice_index text k) ≡ true
  pub fraction : (k : ℕ) → point < k → k < length text → is_digit (slice_index text k) ≡ true

pub point_place : (whole fraction text : List ℕ) → IsPointed whole fraction text → HasPointAt text (length whole)
point_place whole fraction text h =
    let P : List ℕ → Type 0 = λ xs. HasPointAt xs (length whole) in
    subst P (sym h.shape) record {
      before = digits_some whole h.whole_digits;
      behind =
          let size = length-append whole (46 ∷ fraction) in
          let some = digits_some fraction h.fraction_digits in
          omega arith;
      is_point = get_or_at whole 46 fraction 0 (length whole) refl;
      whole = λ k lt.
          ap is_digit (get_or_append_left whole (46 ∷ fraction) 0 k lt) ∙ digits_byte whole h.whole_digits k lt;
      fraction = λ k gt lt.
          ap is_digit (get_or-append_right whole (46 ∷ fraction) (length whole) k 0 refl (omega arith)) ∙ later k gt lt;
    }
  where
    later : (k : ℕ)
        → length whole < k
        → k < length (whole ++ 46 ∷ fraction)
        → is_digit (slice_index (46 ∷ fraction) (k - length whole)) ≡ true
    later k gt lt =
        let e : k - length whole ≡ suc (k - length whole - 1) = omega arith in
        let size = length-append whole (46 ∷ fraction) in
        ap (λ n. is_digit (slice_index (46 ∷ fraction) n)) e
        ∙ digits_byte fraction h.fraction_digits (k - length whole - 1) (omega arith)

pub number_head : (text : List ℕ) → IsNumber text → is_digit (slice_index text 0) ≡ true
number_head text (inl digits) = digits_byte text digits 0 (digits_some text digits)
number_head text (inr pointed) =
    let place = point_place pointed.0 pointed.1 text pointed.2 in place.whole 0 place.before

-- each row of a table passes a test that the table passes
abbrev pub row_passes : (test : List ℕ → Bool) (table : List (List ℕ))
    → list_all test table ≡ true
    → (n : ℕ)
    → n < length table
    → test (slice_index_or table n []) ≡ true
row_passes test table h n lt = AllPass-from_list_all test table h n [] lt

-- the first byte of a symbol begins no word, no number, no blank and no comment
abbrev symbol_test : List ℕ → Bool
symbol_test text =
    (nat_lt 0 (length text) && not (is_name_byte (slice_index text 0)))
    && (not (is_blank (slice_index text 0)) && not (nat_eq (slice_index text 0) 47))

pub record IsSymbolText (text : List ℕ) : Type 0 where
  pub some : 0 < length text
  pub no_name_byte : is_name_byte (slice_index text 0) ≡ false
  pub no_blank : is_blank (slice_index text 0) ≡ false
  pub no_slash : nat_eq (slice_index text 0) 47 ≡ false

symbol_parts : (text : List ℕ) → symbol_test text ≡ true → IsSymbolText text
symbol_parts text h =
    let halves =
    and_parts (nat_lt 0 (length text) && not (is_name_byte (slice_index text 0)))
    (not (is_blank (slice_index text 0)) && not (nat_eq (slice_index text 0) 47)) h in
    let front = and_parts (nat_lt 0 (length text)) (not (is_name_byte (slice_index text 0))) halves.0 in
    let back = and_parts (not (is_blank (slice_index text 0))) (not (nat_eq (slice_index text 0) 47)) halves.1 in
    record {
      some = ltb-true _ _ front.0;
      no_name_byte = not-true _ front.1;
      no_blank = not-true _ back.0;
      no_slash = not-true _ back.1;
    }

pub symbol_row : (n : ℕ) → n < length symbols → IsSymbolText (slice_index_or symbols n [])
symbol_row n lt = symbol_parts (slice_index_or symbols n []) (row_passes symbol_test symbols refl n lt)

pub symbol_text : (text : List ℕ) → Contains symbols text → IsSymbolText text
symbol_text text h = subst IsSymbolText (sym (get_or_default symbols h.0 text [] h.1) ∙ h.2) (symbol_row h.0 h.1)

pub word_from : (text : List ℕ)
    → 0 < length text
    → is_letter (slice_index text 0) ≡ true
    → list_all is_name_byte text ≡ true
    → is_word text ≡ true
word_from [] some letter all = absurd (omega arith)
word_from (b ∷ bs) some letter all = and_from _ _ letter (and_parts (is_name_byte b) (list_all is_name_byte bs) all).1

-- how many digits a number has
digit_count-append : (xs ys : List ℕ) → digit_count (xs ++ ys) ≡ digit_count xs + digit_count ys
digit_count-append xs ys = sum_by-append (λ b. cond (is_digit b) 1 0) xs ys

digit_count-one : (b : ℕ) → is_digit b ≡ true → digit_count (b ∷ []) ≡ 1
digit_count-one b h = let f : Bool → ℕ = λ v. 0 + cond v 1 0 in ap f h

pub digit_count-digits : (text : List ℕ) → list_all is_digit text ≡ true → digit_count text ≡ length text
digit_count-digits [] h = refl
digit_count-digits (b ∷ bs) h =
    let parts = and_parts (is_digit b) (list_all is_digit bs) h in
    let rest = digit_count-digits bs parts.1 in
    let one = digit_count-one b parts.0 in
    let both : digit_count (b ∷ bs) ≡ digit_count (b ∷ []) + digit_count bs = digit_count-append (b ∷ []) bs in
    omega arith

pub digit_count-pointed : (whole fraction text : List ℕ)
    → IsPointed whole fraction text
    → digit_count text + 1 ≡ length text
digit_count-pointed whole fraction text h =
    let front = digit_count-append whole (46 ∷ fraction) in
    let back : digit_count (46 ∷ fraction) ≡ digit_count (46 ∷ []) + digit_count fraction =
    digit_count-append (46 ∷ []) fraction in
    let point : digit_count (46 ∷ []) ≡ 0 = refl in
    let w = digit_count-digits whole (digits_all whole h.whole_digits) in
    let f = digit_count-digits fraction (digits_all fraction h.fraction_digits) in
    let count : digit_count text ≡ digit_count (whole ++ 46 ∷ fraction) = ap digit_count h.shape in
    let size : length text ≡ length (whole ++ 46 ∷ fraction) = ap (length {A = ℕ}) h.shape in
    let sizes = length-append whole (46 ∷ fraction) in
    omega arith
