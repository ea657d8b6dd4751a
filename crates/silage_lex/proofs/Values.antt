-- The value of decimal digits stays below the power of ten that their number gives.
use Rattle.std.proofs.Common.{◌≡◌, ℕ, ◌+◌, ◌-◌, ◌*◌, ◌^◌, ◌≤◌, ◌<◌, true, List, length, take, sym, ap, ◌∙◌, arith}
use Rattle.std.proofs.Common.{add-one}
use Rattle.std.specs.Prelude.{slice_index}
use Rattle.std.proofs.Math.Nat.{pow-le-pow_right, pow-suc, mul_assoc, mul-le-mul_left}
use Rattle.std.proofs.lemmas.Bool.Decides.{nat_tests}
use Rattle.std.proofs.lemmas.List.Sums.{fold_more}
use Rattle.silage_lex.specs.Bytes.{is_digit}
use Rattle.silage_lex.specs.Texts.{decimal_after}

pub digit_range : (b : ℕ) → is_digit b ≡ true → (48 ≤ b) × (b ≤ 57)
digit_range b h = grind (arith, nat_tests)

ten_more : (number k : ℕ) → (number + 1) * 10 ^ (k + 1) ≡ (number + 1) * 10 ^ k * 10
ten_more number k =
    ap (λ n. (number + 1) * n) (ap (λ n. 10 ^ n) (add-one k) ∙ pow-suc 10 k) ∙ sym (mul_assoc (number + 1) (10 ^ k) 10)

pub bound_more : (number value k d : ℕ)
    → value + 1 ≤ (number + 1) * 10 ^ k
    → d ≤ 9
    → value * 10 + d + 1 ≤ (number + 1) * 10 ^ (k + 1)
bound_more number value k d bound digit = rw (ten_more number k) (scaled ((number + 1) * 10 ^ k) bound)
  where
    scaled : (p : ℕ) → value + 1 ≤ p → value * 10 + d + 1 ≤ p * 10
    scaled p h = omega arith

pub bound_within : (number value k size : ℕ)
    → value + 1 ≤ (number + 1) * 10 ^ k
    → k < size
    → (number + 1) * 10 ^ size ≤ 10 ^ 18
    → value * 10 + 10 ≤ 10 ^ 18
bound_within number value k size bound more room =
    let step = bound_more number value k 9 bound (omega arith) in
    let shorter : k + 1 ≤ size = omega arith in
    let grows : (number + 1) * 10 ^ (k + 1) ≤ (number + 1) * 10 ^ size =
    mul-le-mul_left (number + 1) (pow-le-pow_right {n = 10} (omega arith) shorter) in
    omega arith

pub decimal_more : (number : ℕ) (digits : List ℕ) (k : ℕ)
    → k < length digits
    → decimal_after number (take (k + 1) digits)
    ≡ 10 * decimal_after number (take k digits) + (slice_index digits k - 48)
decimal_more number digits k h = fold_more (λ n b. 10 * n + (b - 48)) number digits k 0 h
