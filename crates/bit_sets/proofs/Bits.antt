-- Which numbers are in a set whose bits are made of those of others.
use Rattle.std.proofs.Common.{◌≡◌, ◌≢◌, ◌∙◌, ◌↔◌, ◌⊎◌, sym, ap, subst, arith, inl, inr, ⊎_elim, ℕ, suc, ◌+◌, ◌-◌, ◌*◌}
use Rattle.std.proofs.Common.{◌%◌, ◌^◌, ◌<◌, ◌≤◌, max, bit_and, bit_or}
use mir.Val.{bits}
use Rattle.std.specs.Int.{Width, bit_at, bit_not, trailing_zeros}
use Rattle.std.proofs.lemmas.Bool.{cases_lt, cases_eq}
use Rattle.std.proofs.lemmas.Nat.{and_le_l}
use Rattle.std.proofs.lemmas.Nat.Bits.{bit_at_or, bit_at_and, bit_at-lt, bit_at_set_same, bit_at_set_other}
use Rattle.std.proofs.lemmas.Nat.Bits.{bit_at_clear_same, bit_at_clear_other, bit_at_above, bit_at_lowest}
use Rattle.std.proofs.lemmas.Nat.Bits.{bit_at_cat_high, bit_at-trailing_zeros, bit_at-zero, bit_at_ones}
use Rattle.std.proofs.Math.Nat.{pow-succ'}
use Rattle.bit_sets.specs.Bits.{Has, IsTaken, IsFirstOf, IsLastOf}

pub has_none : (k : ℕ) → ¬ Has 0 k
has_none k h = omega (arith, h.bit, bit_at-zero k)

pub has_all : (w k : ℕ) → k < w → Has (2 ^ w - 1) k
has_all w k less = record { bit = bit_at_ones w k less }

pub has_or_not : (n k : ℕ) → Has n k ⊎ ¬ Has n k
has_or_not n k =
    ⊎_elim (λ e. inl (record { bit = e })) (λ no. inr (λ (h : Has n k). no h.bit)) (cases_eq (bit_at n k) 1)

max_one : (x y m : ℕ) → m ≡ max x y → x < 2 → y < 2 → m ≡ 1 → (x ≡ 1) ⊎ (y ≡ 1)
max_one x y m is a b one = ⊎_elim (λ e. inl e) (λ e. inr (omega arith)) (cases_eq x 1)

pub has_union : (a b k : ℕ) → Has (bit_or a b) k ↔ (Has a k ⊎ Has b k)
has_union a b k =
    let is = bit_at_or a b k in
    let la = bit_at-lt a k in
    let lb = bit_at-lt b k in (
      λ h. ⊎_elim (λ e. inl (record { bit = e })) (λ e. inr (record { bit = e }))
          (max_one (bit_at a k) (bit_at b k) _ is la lb h.bit),
      λ h. ⊎_elim (λ (x : Has a k). record { bit = omega (arith, x.bit, is, la, lb) })
          (λ (x : Has b k). record { bit = omega (arith, x.bit, is, la, lb) }) h,
    )

pub has_intersection : (a b k : ℕ) → Has (bit_and a b) k ↔ (Has a k × Has b k)
has_intersection a b k =
    let is = bit_at_and a b k in
    let la = bit_at-lt a k in
    let lb = bit_at-lt b k in (
      λ h. (record { bit = omega (arith, h.bit, is, la, lb) }, record { bit = omega (arith, h.bit, is, la, lb) }),
      λ h. record { bit = omega (arith, h.0.bit, h.1.bit, is, la, lb) },
    )

-- a bit of a number, cleared
abbrev pub cleared : Width → (n p : ℕ) → ℕ
cleared w n p = bit_and n (bit_not w (1 * 2 ^ p % 2 ^ bits w))

module _ (w : Width) (n p : ℕ) (within : p < bits w) where
  pub has_with : (k : ℕ) → Has (bit_or n (1 * 2 ^ p % 2 ^ bits w)) k ↔ (Has n k ⊎ (k ≡ p))
  has_with k =
      ⊎_elim
      (λ (e : k ≡ p). (
        λ h. inr e,
        λ h. record { bit = ap (bit_at (bit_or n (1 * 2 ^ p % 2 ^ bits w))) e ∙ bit_at_set_same w n p within },
      ))
      (λ (other : k ≢ p).
      let same = bit_at_set_other w n p within k other in (
        λ h. inl (record { bit = sym same ∙ h.bit }),
        λ h. ⊎_elim (λ (x : Has n k). record { bit = same ∙ x.bit }) (λ (e : k ≡ p). absurd (other e)) h,
      ))
      (cases_eq k p)

  module _ (small : n < 2 ^ bits w) where
    same_else : (j : ℕ) → j ≢ p → bit_at (cleared w n p) j ≡ bit_at n j
    same_else j other =
        ⊎_elim (λ (inside : j < bits w). bit_at_clear_other w n p within j inside other)
        (λ (past : bits w ≤ j).
        bit_at_above (cleared w n p) (bits w) j (omega (arith, and_le_l n (bit_not w (1 * 2 ^ p % 2 ^ bits w)))) past
        ∙ sym (bit_at_above n (bits w) j small past))
        (cases_lt j (bits w))

    gone : bit_at (cleared w n p) p ≡ 0
    gone = bit_at_clear_same w n p within

    pub has_without : (j : ℕ) → Has (cleared w n p) j ↔ (Has n j × (j ≢ p))
    has_without j = (
      λ h. ⊎_elim
          (λ (e : j ≡ p). absurd (omega (arith, gone, h.bit, ap (bit_at (cleared w n p)) e)))
          (λ (other : j ≢ p). (record { bit = sym (same_else j other) ∙ h.bit }, other))
          (cases_eq j p),
      λ h. record { bit = same_else j h.1 ∙ h.0.bit },
    )

    pub clears : bit_at n p ≡ 1 → IsTaken n p (cleared w n p)
    clears set =
        let most = and_le_l n (bit_not w (1 * 2 ^ p % 2 ^ bits w)) in
        let differ : (cleared w n p) ≢ n = λ e. absurd (omega (arith, set, gone, ap (λ (x : ℕ). bit_at x p) e)) in
        record { there = record { bit = set }; rest = has_without; less = omega arith }

module _ (w : Width) (n : ℕ) (small : n < 2 ^ bits w) where
  pub clear_lowest : n ≢ 0 → IsFirstOf n (trailing_zeros w n) (cleared w n (trailing_zeros w n))
  clear_lowest some =
      let is = bit_at-trailing_zeros w n (omega (arith, some)) small in record {
        taken = clears w n (trailing_zeros w n) is.0 small is.1;
        first = λ j less h. omega (arith, h.bit, is.2 j less);
      }

  -- the highest bit
  highest_bit : (b : ℕ) → 2 ^ b ≤ n → n < 2 * 2 ^ b → bit_at n b ≡ 1
  highest_bit b low high =
      let whole : n ≡ 1 * 2 ^ b + (n - 2 ^ b) = omega arith in
      let rest : n - 2 ^ b < 2 ^ b = omega arith in
      let none : b - b ≡ 0 = omega arith in
      ap (λ (x : ℕ). bit_at x b) whole ∙ bit_at_cat_high 1 b (n - 2 ^ b) b rest (omega arith)
      ∙ ap (bit_at 1) none ∙ bit_at_lowest 1

  pub clear_highest : (b : ℕ) → b < bits w → 2 ^ b ≤ n → n < 2 * 2 ^ b → IsLastOf n b (cleared w n b)
  clear_highest b within low high = record {
    taken = clears w n b within small (highest_bit b low high);
    last = λ j less h.
        omega (
          arith,
          h.bit,
          bit_at_above n (suc b) j (subst (λ (x : ℕ). n < x) (sym (pow-succ' 2 b)) high) (omega arith),
        );
  }
