-- The numbers of a source, as digits and a point give them.
use Rattle.std.proofs.Common.{◌≡◌, ℕ, suc, ◌+◌, ◌-◌, ◌*◌, ◌^◌, ◌≤◌, ◌<◌, true, false, inl, inr, List, ◌∷◌, ◌++◌, length}
use Rattle.std.proofs.Common.{take, drop, sym, ap, ◌∙◌, arith}
use Rattle.std.specs.Prelude.{slice_index, slice_range}
use Rattle.std.specs.List.{list_all}
use Rattle.std.proofs.Math.Nat.{pow-le-pow_right, mul-le-mul_right}
use Rattle.std.proofs.lemmas.Nat.{pow-add}
use Rattle.std.proofs.Math.Seq.{take-add}
use Rattle.std.proofs.lemmas.Bool.{cases_lt, or_from}
use Rattle.std.proofs.lemmas.List.Sums.{fold-append}
use Rattle.std.proofs.lemmas.List.{drop-drop, drop_more}
use Rattle.silage_lex.specs.Bytes.{is_digit, is_letter, is_name_byte, begins_fraction}
use Rattle.silage_lex.specs.Texts.{is_digits, IsPointed, digit_count, decimal, decimal_after}
use Rattle.silage_lex.specs.Faults.{IsNumberSpan}
use Rattle.silage_lex.specs.Scan.{IsDigitSpan}
use Rattle.silage_lex.proofs.TextLemmas.{digits_from, digits_all, point_place, digit_count-digits, digit_count-pointed}
use Rattle.silage_lex.proofs.Longest.{span_size, digits_longest, pointed_longest}

-- a span's text is that of its front and that of its back
span_split : (bytes : List ℕ) (from middle to : ℕ)
    → from ≤ middle
    → middle ≤ to
    → slice_range bytes from to ≡ slice_range bytes from middle ++ slice_range bytes middle to
span_split bytes from middle to low high =
    let size : to - from ≡ middle - from + (to - middle) = omega arith in
    let place : from + (middle - from) ≡ middle = omega arith in
    ap (λ n. take n (drop from bytes)) size
    ∙ take-add (middle - from) (to - middle) (drop from bytes)
    ∙ ap (λ rest. take (middle - from) (drop from bytes) ++ take (to - middle) rest)
    (drop-drop (middle - from) from bytes ∙ ap (λ n. drop n bytes) place)

span_cons : (bytes : List ℕ) (at to : ℕ)
    → at < to
    → at < length bytes
    → slice_range bytes at to ≡ slice_index bytes at ∷ slice_range bytes (at + 1) to
span_cons bytes at to rises within =
    let size : to - at ≡ suc (to - (at + 1)) = omega arith in
    ap (λ rest. take (to - at) rest) (drop_more bytes at 0 within)
    ∙ ap (λ n. take n (slice_index bytes at ∷ drop (at + 1) bytes)) size

-- digits at a place where one stands, up to the last
pub digit_span : (bytes : List ℕ) (from to : ℕ)
    → from ≤ to
    → to ≤ length bytes
    → is_digit (slice_index bytes from) ≡ true
    → list_all is_digit (slice_range bytes from to) ≡ true
    → is_digit (slice_index bytes to) ≡ false
    → IsDigitSpan bytes from to
digit_span bytes from to order within digit all stop =
    let size = span_size bytes from to within in
    let up = rises in
    record {
      rises = up;
      within = within;
      digits = digits_from (slice_range bytes from to) (omega arith) all;
      stop = stop;
    }
  where
    rises : from < to
    rises = elim (cases_lt from to) [
      | inl lt ↦ lt
      | inr ge ↦
          let same : from ≡ to = omega arith in let no = ap (λ at. is_digit (slice_index bytes at)) same in absurd (cc)
    ]

pub whole_span : (bytes : List ℕ) (from to : ℕ)
    → IsDigitSpan bytes from to
    → begins_fraction bytes to ≡ false
    → IsNumberSpan bytes from to
whole_span bytes from to h no_fraction = record {
  rises = h.rises;
  within = h.within;
  number = inl h.digits;
  longest = digits_longest bytes from to h.rises h.digits h.within h.stop no_fraction;
}

pub whole_digits : (bytes : List ℕ) (from to : ℕ)
    → IsDigitSpan bytes from to
    → digit_count (slice_range bytes from to) ≡ to - from
whole_digits bytes from to h =
    digit_count-digits (slice_range bytes from to) (digits_all (slice_range bytes from to) h.digits)
    ∙ span_size bytes from to h.within

pub pointed_text : (bytes : List ℕ) (from point to : ℕ)
    → from < point
    → is_digits (slice_range bytes from point) ≡ true
    → slice_index bytes point ≡ 46
    → IsDigitSpan bytes (point + 1) to
    → IsPointed (slice_range bytes from point) (slice_range bytes (point + 1) to) (slice_range bytes from to)
pointed_text bytes from point to rises whole is_point h =
    let up = h.rises in
    let within = h.within in
    record {
      shape =
          span_split bytes from point to (omega arith) (omega arith)
          ∙ ap (λ back. slice_range bytes from point ++ back)
          (span_cons bytes point to (omega arith) (omega arith)
          ∙ ap (λ b. b ∷ slice_range bytes (point + 1) to) is_point);
      whole_digits = whole;
      fraction_digits = h.digits;
    }

pub pointed_span : (bytes : List ℕ) (from point to : ℕ)
    → from < point
    → is_digits (slice_range bytes from point) ≡ true
    → slice_index bytes point ≡ 46
    → IsDigitSpan bytes (point + 1) to
    → IsNumberSpan bytes from to
pointed_span bytes from point to rises whole is_point h =
    let text = pointed_text bytes from point to rises whole is_point h in
    let up = h.rises in
    record {
      rises = omega arith;
      within = h.within;
      number = inr (slice_range bytes from point, slice_range bytes (point + 1) to, text);
      longest =
          pointed_longest bytes from to (length (slice_range bytes from point)) (omega arith) h.within
          (point_place _ _ _ text) h.stop;
    }

pub pointed_digits : (bytes : List ℕ) (from point to : ℕ)
    → to ≤ length bytes
    → IsPointed (slice_range bytes from point) (slice_range bytes (point + 1) to) (slice_range bytes from to)
    → digit_count (slice_range bytes from to) + 1 ≡ to - from
pointed_digits bytes from point to within h = digit_count-pointed _ _ _ h ∙ span_size bytes from to within

-- a number of at most 18 digits is below 10 ^ 18
pub room_for : (digits : ℕ) → digits ≤ 18 → (0 + 1) * 10 ^ digits ≤ 10 ^ 18
room_for digits h = let grows : 10 ^ digits ≤ 10 ^ 18 = pow-le-pow_right {n = 10} (omega arith) h in omega arith

pub no_name_byte : (b : ℕ) → is_letter b ≡ false → is_digit b ≡ false → is_name_byte b ≡ false
no_name_byte b letter digit = or_from _ _ letter digit

-- the digits behind the point have room where all digits do
pub room_after : (value whole fraction : ℕ)
    → value + 1 ≤ (0 + 1) * 10 ^ whole
    → whole + fraction ≤ 18
    → (value + 1) * 10 ^ fraction ≤ 10 ^ 18
room_after value whole fraction bound few =
    let scaled : (value + 1) * 10 ^ fraction ≤ 10 ^ whole * 10 ^ fraction =
    mul-le-mul_right (10 ^ fraction) (let b : value + 1 ≤ 10 ^ whole = omega arith in b) in
    let joined : 10 ^ whole * 10 ^ fraction ≡ 10 ^ (whole + fraction) = sym (pow-add 10 whole fraction) in
    let room = room_for (whole + fraction) few in
    omega arith

pub decimal-append : (value : ℕ) (whole fraction : List ℕ)
    → value ≡ decimal_after 0 whole
    → decimal_after value fraction ≡ decimal (whole ++ fraction)
decimal-append value whole fraction h =
    ap (λ n. decimal_after n fraction) h ∙ sym (fold-append (λ n b. 10 * n + (b - 48)) 0 whole fraction)
