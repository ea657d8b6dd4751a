-- The decimal texts of numbers.
use Rattle.std.proofs.Common.{◌≡◌, ℕ, zero, suc, ◌+◌, ◌-◌, ◌*◌, ◌/◌, ◌%◌, ◌≤◌, ◌<◌, ◌^◌, true, false, List, [], ◌∷◌}
use Rattle.std.proofs.Common.{◌++◌, length, take, drop, refl, sym, ap, ◌∙◌, subst, arith, decimal, nat_eq, replicate}
use Rattle.std.specs.List.{list_all}
use Rattle.std.specs.Prelude.{if◌then◌else◌}
use Rattle.std.proofs.Math.Nat.{pow-le-pow_right, pow-suc, mul_assoc, mul-le-mul_right}
use Rattle.std.proofs.lemmas.Bool.{and_parts, and_from}
use Rattle.std.proofs.lemmas.Bool.Decides.{nat_tests}
use Rattle.std.proofs.lemmas.Fmt.{decimal_by_steps, length-decimal-le, decimal_nonempty}
use Rattle.std.proofs.lemmas.List.{length-append, length-replicate, length-drop, length-take-le, take-append-drop}
use Rattle.std.proofs.lemmas.List.Folds.{list_all-append}
use Rattle.std.proofs.lemmas.List.Sums.{fold-append}
use Rattle.silage_lex.specs.Bytes.{is_digit}
use Rattle.silage_lex.specs.Texts.{IsPoint, IsPointed, decimal_after, decimal as value}
use Rattle.silage_lex.specs.declared.TokenKind.TheVariants as kind
use Rattle.silage_lex.proofs.TextLemmas.{digits_some, digits_from, digit_count-digits, digit_count-pointed}
use Rattle.silage_print.specs.Text.{number, filled, pointed}
use Rattle.silage_print.proofs.KindsAt.{IsWritten}

-- digits that are the number's
record AreDigits (n : ℕ) (ds : List ℕ) : Type 0 where
  all : list_all is_digit ds ≡ true
  same : value ds ≡ n

one_digit : (n : ℕ) → n < 10 → AreDigits n ((48 + n) ∷ [])
one_digit n h =
    let digit : is_digit (48 + n) ≡ true = grind (arith, nat_tests) in
    record { all = and_from _ _ digit refl; same = omega arith }

more_digits : (n : ℕ) (ds : List ℕ) → 10 ≤ n → AreDigits (n / 10) ds → AreDigits n (ds ++ ((48 + n % 10) ∷ []))
more_digits n ds h front =
    let digit : is_digit (48 + n % 10) ≡ true = grind (arith, nat_tests) in
    let last = fold-append (λ m b. 10 * m + (b - 48)) 0 ds ((48 + n % 10) ∷ []) in
    let before = ap (λ m. 10 * m + (48 + n % 10 - 48)) front.same in
    record {
      all = list_all-append is_digit ds ((48 + n % 10) ∷ []) ∙ and_from _ _ front.all (and_from _ _ digit refl);
      same = last ∙ before ∙ (omega arith);
    }

small_number : (n : ℕ) → n < 10 ^ 18 → n < 2 ^ 64
small_number n h = omega arith

decimal_digits : (n : ℕ) → n < 10 ^ 18 → AreDigits n (decimal n)
decimal_digits n small = decimal_by_steps AreDigits one_digit more_digits n (small_number n small)

pub whole_written : (n : ℕ) → n < 10 ^ 18 → IsWritten (kind.Whole n)
whole_written n small =
    let h = decimal_digits n small in
    let all = h.all in
    let some = decimal_nonempty n (small_number n small) in
    let few = length-decimal-le 18 n (omega arith) small (small_number n small) in
    let count = digit_count-digits (decimal n) all in
    record { digits = digits_from (decimal n) some all; short = omega arith; value_is = sym h.same }

-- the value of digits is below the power of ten that their number gives
scaled : (number d p : ℕ) → d ≤ 9 → (10 * number + d + 1) * p ≤ (number + 1) * (10 * p)
scaled number d p h =
    let le : 10 * number + d + 1 ≤ (number + 1) * 10 = omega arith in
    let grows = mul-le-mul_right p le in
    let same = mul_assoc (number + 1) 10 p in
    omega arith

turned : (p : ℕ) → p * 10 ≡ 10 * p
turned p = omega arith

within : (a b c : ℕ) {d : ℕ} → a ≤ b → b ≤ c → d ≡ c → a ≤ d
within a b c h k e = omega arith

below : (number : ℕ) (ds : List ℕ)
    → list_all is_digit ds ≡ true
    → decimal_after number ds + 1 ≤ (number + 1) * 10 ^ length ds
below number [] h = omega arith
below number (d ∷ ds) h =
    let parts = and_parts (is_digit d) (list_all is_digit ds) h in
    let digit : d - 48 ≤ 9 = grind (arith, nat_tests) in
    let rest = below (10 * number + (d - 48)) ds parts.1 in
    let grows = scaled number (d - 48) (10 ^ length ds) digit in
    let power : 10 ^ length (d ∷ ds) ≡ 10 * 10 ^ length ds = pow-suc 10 (length ds) ∙ turned (10 ^ length ds) in
    within _ _ _ rest grows (ap (λ m. (number + 1) * m) power)

pub value_small : (ds : List ℕ) → list_all is_digit ds ≡ true → length ds ≤ 18 → value ds < 10 ^ 18
value_small ds h few =
    let low = below 0 ds h in
    let high = pow-le-pow_right {n = 10} (omega arith) few in
    omega arith

-- leading zeros change no value
zeros_before : (n : ℕ) (ds : List ℕ) → value (replicate n 48 ++ ds) ≡ value ds
zeros_before zero ds = refl
zeros_before (suc n) ds = zeros_before n ds

zeros_digits : (n : ℕ) → list_all is_digit (replicate n 48) ≡ true
zeros_digits zero = refl
zeros_digits (suc n) = zeros_digits n

-- a number with a point has digits after it
point_has : (digits places : ℕ) → IsPoint digits places (pointed (filled (decimal digits) places) places) → 1 ≤ places
point_has digits places h =
    let some = digits_some h.fraction h.pointed.fraction_digits in
    let are = h.places_are in
    omega arith

pub point_has_places : (digits places : ℕ) → IsWritten (kind.Point digits places) → IsWritten (number digits places)
point_has_places digits places h =
    let some = point_has digits places h in
    let no : nat_eq places 0 ≡ false = grind (arith, nat_tests) in
    let same : kind.Point digits places ≡ number digits places =
    ap (λ t. if t then kind.Whole digits else kind.Point digits places) (sym no) in
    subst IsWritten same h

-- the text of a number with a point, whose digits are filled with leading zeros
point_of : (digits places : ℕ) (ds : List ℕ)
    → list_all is_digit ds ≡ true
    → places < length ds
    → 1 ≤ places
    → length ds ≤ 18
    → value ds ≡ digits
    → IsPoint digits places (pointed ds places)
point_of digits places ds all more some few same =
    let whole = take (length ds - places) ds in
    let fraction = drop (length ds - places) ds in
    let halves = take-append-drop (length ds - places) ds in
    let parts =
    and_parts (list_all is_digit whole) (list_all is_digit fraction)
    (sym (list_all-append is_digit whole fraction) ∙ ap (list_all is_digit) halves ∙ all) in
    let front : length whole ≡ length ds - places = length-take-le (length ds - places) ds (omega arith) in
    let back : length fraction ≡ length ds - (length ds - places) = length-drop (length ds - places) ds in
    let shape : IsPointed whole fraction (pointed ds places) =
    record {
      shape = refl;
      whole_digits = digits_from whole (omega arith) parts.0;
      fraction_digits = digits_from fraction (omega arith) parts.1;
    } in
    let count = digit_count-pointed whole fraction (pointed ds places) shape in
    let size = length-append whole (46 ∷ fraction) in
    record {
      whole = whole;
      fraction = fraction;
      pointed = shape;
      short = omega arith;
      digits_are = sym (ap value halves ∙ same);
      places_are = omega arith;
    }

pub point_written : (digits places : ℕ)
    → digits < 10 ^ 18
    → 1 ≤ places
    → places < 18
    → IsWritten (kind.Point digits places)
point_written digits places small some few =
    let h = decimal_digits digits small in
    let zeros : List ℕ = replicate (places + 1 - length (decimal digits)) 48 in
    let all : list_all is_digit (zeros ++ decimal digits) ≡ true =
    list_all-append is_digit zeros (decimal digits)
    ∙ and_from _ _ (zeros_digits (places + 1 - length (decimal digits))) h.all in
    let size : length (zeros ++ decimal digits) ≡ places + 1 - length (decimal digits) + length (decimal digits) =
    length-append zeros (decimal digits)
    ∙ ap (λ n. n + length (decimal digits)) (length-replicate (places + 1 - length (decimal digits)) 48) in
    let short : length (decimal digits) ≤ 18 =
    length-decimal-le 18 digits (omega arith) small (small_number digits small) in
    point_of digits places (zeros ++ decimal digits) all (omega arith) some (omega arith)
    (zeros_before (places + 1 - length (decimal digits)) (decimal digits) ∙ h.same)
