-- Numbers in decimal, read from their first digit on.
use Rattle.std.proofs.Common.{◌≡◌, sym, ap, ◌∙◌, arith, ℕ, ◌+◌, ◌-◌, ◌*◌, ◌<◌, ◌≤◌, List, [], ◌∷◌, length, take, drop}
use Rattle.std.proofs.Common.{take-append-drop, get_or, true, nat_le}
use Rattle.std.specs.Prelude.{◌≢◌, slice_index}
use Rattle.std.specs.List.{list_all}
use Rattle.std.proofs.lemmas.Bool.{and_parts, leb-true}
use Rattle.std.proofs.lemmas.List.Sums.{fold-append, fold_more}
use Rattle.silage_lex.specs.Bytes.{is_digit}
use Rattle.silage_lex.specs.Texts.{is_digits, decimal, decimal_after}
use Rattle.silage_lex.proofs.TextLemmas.{digits_from}
use Rattle.command_words.specs.Command.{IsNumeral}

-- one more digit
pub decimal_push : (text : List ℕ) (i x d : ℕ)
    → i < length text
    → d ≡ get_or text i x - 48
    → decimal (take (i + 1) text) ≡ 10 * decimal (take i text) + d
decimal_push text i x d there is =
    fold_more (λ n b. 10 * n + (b - 48)) 0 text i x there ∙ ap (λ k. 10 * decimal (take i text) + k) (sym is)

-- digits that follow make a number no less
after_le : (number : ℕ) (digits : List ℕ) → number ≤ decimal_after number digits
after_le number [] = omega arith
after_le number (b ∷ digits) = omega (arith, after_le (10 * number + (b - 48)) digits)

-- digits that do not begin with a zero
pub positive : (text : List ℕ) → is_digits text ≡ true → slice_index text 0 ≢ 48 → 1 ≤ decimal text
positive [] all other = absurd (cc)
positive (b ∷ digits) all other =
    let more = after_le (10 * 0 + (b - 48)) digits in
    let digit = (and_parts (is_digit b) (list_all is_digit digits) all).0 in
    let low = leb-true 48 b (and_parts (nat_le 48 b) (nat_le b 57) digit).0 in
    let above : 49 ≤ b = omega (arith, low, other) in
    omega (arith, more, above)

pub front_le : (text : List ℕ) (i : ℕ) → decimal (take i text) ≤ decimal text
front_le text i =
    let whole : decimal text ≡ decimal_after (decimal (take i text)) (drop i text) =
    ap decimal (sym (take-append-drop i text)) ∙ fold-append (λ n b. 10 * n + (b - 48)) 0 (take i text) (drop i text) in
    omega (arith, whole, after_le (decimal (take i text)) (drop i text))

-- digits that are a number above 0
pub numeral : (text : List ℕ) (number : ℕ)
    → list_all is_digit text ≡ true
    → number ≡ decimal text
    → 1 ≤ number
    → IsNumeral text number
numeral [] number all is some = absurd (omega (arith, is, some))
numeral (b ∷ digits) number all is some = record { digits = digits_from (b ∷ digits) (omega arith) all; value = is }
