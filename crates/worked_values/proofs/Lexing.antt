-- Tokens of a text by tests that compute.
use Rattle.std.proofs.Common.{◌≡◌, ◌<◌, ◌≤◌, ◌+◌, ◌-◌, ◌&&◌, refl, sym, subst, ◌∙◌, arith, ℕ, zero, suc, Bool, true}
use Rattle.std.proofs.Common.{false, not, true≢false, inl, inr, ◌++◌, List, [], length, Some}
use Rattle.std.specs.Prelude.{slice_get, slice_index, slice_index_or, slice_range, Contains, bytes_eq}
use Rattle.std.specs.List.{list_all}
use Rattle.std.proofs.lemmas.Bool.{and_parts, cases_lt, not-true}
use Rattle.std.proofs.lemmas.List.{get_or_default}
use Rattle.std.proofs.lemmas.List.Sums.{AllPass-from_list_all}
use Rattle.silage_lex.specs.Bytes.{is_letter, is_name_byte, begins_fraction, closes_comment}
use Rattle.silage_lex.specs.Scan.{stands_at, IsDigitSpan}
use Rattle.silage_lex.specs.Texts.{reserved_words, symbols, is_digits, digit_count, decimal}
use Rattle.silage_lex.specs.Tokens.{IsSpan, NoCloseBetween}
use Rattle.silage_lex.specs.declared.TokenKind.TheVariants.{Name, Whole, Point, Reserved, Symbol}
use Rattle.silage_lex.proofs.Longest.{word_span, symbol_span}
use Rattle.silage_lex.proofs.Numbers.{whole_span, pointed_span, pointed_text}

-- what a test says of each number below n
abbrev each : ℕ → (ℕ → Bool) → Bool
each zero test = true
each (suc n) test = test n && each n test

each_passes : (n : ℕ) (test : ℕ → Bool) → each n test ≡ true → (k : ℕ) → k < n → test k ≡ true
each_passes zero test h k below = absurd (omega (arith, below))
each_passes (suc n) test h k below =
    let parts = and_parts (test n) (each n test) h in
    elim (cases_lt k n) [
      | inl less ↦ each_passes n test parts.1 k less
      | inr more ↦ let same : n ≡ k = omega (arith, below, more) in subst (λ m. test m ≡ true) same parts.0
    ]

-- no text of the table is this one
absent : (table : List (List ℕ)) (text : List ℕ)
    → list_all (λ row. not (bytes_eq row text)) table ≡ true
    → bytes_eq text text ≡ true
    → Contains table text
    → ⊥
absent table text h same has =
    let row : slice_index_or table has.0 [] ≡ text = get_or_default table has.0 [] text has.1 ∙ has.2 in
    let passes = AllPass-from_list_all (λ r. not (bytes_eq r text)) table h has.0 [] has.1 in
    true≢false (sym same ∙ not-true _ (subst (λ r. not (bytes_eq r text) ≡ true) row passes))

-- a word stands there, up to a byte of no name
pub record IsWordAt (bytes : List ℕ) (from to : ℕ) : Type 0 where
  pub order : from ≤ to
  pub within : to ≤ length bytes
  pub letter : is_letter (slice_index bytes from) ≡ true
  pub all : list_all is_name_byte (slice_range bytes from to) ≡ true
  pub stop : is_name_byte (slice_index bytes to) ≡ false

pub word_at : (bytes : List ℕ) (from to : ℕ)
    → from ≤ to
    → to ≤ length bytes
    → is_letter (slice_index bytes from) ≡ true
    → list_all is_name_byte (slice_range bytes from to) ≡ true
    → is_name_byte (slice_index bytes to) ≡ false
    → IsWordAt bytes from to
word_at bytes from to order within letter all stop =
    record { order = order; within = within; letter = letter; all = all; stop = stop }

pub name_span : (bytes : List ℕ) (from to : ℕ)
    → IsWordAt bytes from to
    → list_all (λ row. not (bytes_eq row (slice_range bytes from to))) reserved_words ≡ true
    → bytes_eq (slice_range bytes from to) (slice_range bytes from to) ≡ true
    → IsSpan bytes (Name (slice_range bytes from to)) from to
name_span bytes from to w free same =
    let span = word_span bytes from to w.order w.within w.letter w.all w.stop in
    record {
      rises = span.rises;
      within = w.within;
      text = record { same = refl; word = span.word; free = absent reserved_words _ free same };
      longest = span.longest;
      ends = tt;
    }

pub reserved_span : (bytes : List ℕ) (n from to : ℕ)
    → IsWordAt bytes from to
    → slice_get reserved_words n ≡ Some (slice_range bytes from to)
    → IsSpan bytes (Reserved n) from to
reserved_span bytes n from to w row =
    let span = word_span bytes from to w.order w.within w.letter w.all w.stop in
    record { rises = span.rises; within = w.within; text = row; longest = span.longest; ends = tt }

pub whole_number_span : (bytes : List ℕ) (from to : ℕ)
    → IsDigitSpan bytes from to
    → digit_count (slice_range bytes from to) ≤ 18
    → is_name_byte (slice_index bytes to) ≡ false
    → begins_fraction bytes to ≡ false
    → IsSpan bytes (Whole (decimal (slice_range bytes from to))) from to
whole_number_span bytes from to digits short stop no_fraction =
    let span = whole_span bytes from to digits no_fraction in
    record {
      rises = span.rises;
      within = span.within;
      text = record { digits = digits.digits; short = short; value_is = refl };
      longest = span.longest;
      ends = (stop, no_fraction);
    }

pub point_span : (bytes : List ℕ) (from point to : ℕ)
    → from < point
    → is_digits (slice_range bytes from point) ≡ true
    → slice_index bytes point ≡ 46
    → IsDigitSpan bytes (point + 1) to
    → digit_count (slice_range bytes from to) ≤ 18
    → is_name_byte (slice_index bytes to) ≡ false
    → IsSpan bytes
    (Point (decimal (slice_range bytes from point ++ slice_range bytes (point + 1) to))
    (length (slice_range bytes (point + 1) to))) from to
point_span bytes from point to rises whole is_point digits short stop =
    let span = pointed_span bytes from point to rises whole is_point digits in
    record {
      rises = span.rises;
      within = span.within;
      text =
          record {
            whole = slice_range bytes from point;
            fraction = slice_range bytes (point + 1) to;
            pointed = pointed_text bytes from point to rises whole is_point digits;
            short = short;
            digits_are = refl;
            places_are = refl;
          };
      longest = span.longest;
      ends = stop;
    }

-- the first symbol of the table that stands there
pub mark_span : (bytes : List ℕ) (n from : ℕ)
    → from ≤ length bytes
    → n < length symbols
    → stands_at bytes from (slice_index_or symbols n []) ≡ true
    → each n (λ m. not (stands_at bytes from (slice_index_or symbols m []))) ≡ true
    → IsSpan bytes (Symbol n) from (from + length (slice_index_or symbols n []))
mark_span bytes n from within listed stands before =
    symbol_span bytes from n within
    (record {
      listed = listed;
      stands = stands;
      first =
          λ m less.
          not-true _ (each_passes n (λ k. not (stands_at bytes from (slice_index_or symbols k []))) before m less);
    })

pub no_close : (bytes : List ℕ) (from count : ℕ)
    → each count (λ k. not (closes_comment bytes (from + k))) ≡ true
    → NoCloseBetween bytes from (from + count)
no_close bytes from count h at low high =
    let passes =
    each_passes count (λ k. not (closes_comment bytes (from + k))) h (at - from) (omega (arith, low, high)) in
    let same : from + (at - from) ≡ at = omega (arith, low) in
    not-true _ (subst (λ m. not (closes_comment bytes m) ≡ true) same passes)
