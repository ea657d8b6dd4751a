-- The bits of sets.
use Rattle.std.proofs.Common.{◌≡◌, ◌≢◌, ◌∙◌, ℕ, ◌*◌, ◌/◌, ◌%◌, ◌^◌, ◌<◌, ◌↔◌, List, length, get_or, slice_set, bit_and}
use Rattle.std.proofs.Common.{bit_or, arith, ap, sym, subst, w64, tests, not, nat_eq, IsTrue, ⊎_elim, replicate}
use Rattle.std.specs.Int.{bit_at}
use Rattle.std.proofs.lemmas.Nat.{one_shl, pow_pos}
use Rattle.std.proofs.lemmas.Nat.Bits.{and_pow, bit_at_set_same, bit_at_set_other, bit_at-zero}
use Rattle.std.proofs.lemmas.Bool.{cases_eq, cases_lt}
use Rattle.std.proofs.lemmas.List.{length-replicate}
use Rattle.std.proofs.lemmas.List.{get_or-replicate, get_or_past, get_or-set_same, get_or-set_other}

-- the test of a bit
pub has_bit : (n k : ℕ) → k < 64 → IsTrue (not (nat_eq (bit_and n (1 * 2 ^ k % 2 ^ 64)) 0)) ↔ (bit_at n k ≡ 1)
has_bit n k within = grind (arith, tests, one_shl k 64 within, and_pow n k, pow_pos k)

-- a word has the bits of 64 cycles
pub cycle_is : (c d : ℕ) → c / 64 ≡ d / 64 → c % 64 ≡ d % 64 → c ≡ d
cycle_is c d same_word same_bit = omega arith

abbrev with_bit : (words : List ℕ) → ℕ → List ℕ
with_bit words c = slice_set words (c / 64) (bit_or (get_or words (c / 64) 0) (1 * 2 ^ (c % 64) % 2 ^ 64))

pub set_bit_same : (words : List ℕ) (c : ℕ)
    → c / 64 < length words
    → bit_at (get_or (with_bit words c) (c / 64) 0) (c % 64) ≡ 1
set_bit_same words c within =
    let old = get_or words (c / 64) 0 in
    let new = bit_or old (1 * 2 ^ (c % 64) % 2 ^ 64) in
    ap (λ (w : ℕ). bit_at w (c % 64)) (get_or-set_same words (c / 64) new 0 within) ∙ bit_at_set_same w64 old (c %
    64) (omega arith)

pub set_bit_other : (words : List ℕ) (c d : ℕ)
    → c / 64 < length words
    → d ≢ c
    → bit_at (get_or (with_bit words c) (d / 64) 0) (d % 64) ≡ bit_at (get_or words (d / 64) 0) (d % 64)
set_bit_other words c d within other =
    ⊎_elim same (λ differ. ap (λ (w : ℕ). bit_at w (d % 64)) (get_or-set_other words (c / 64) (d / 64) new 0 differ))
    (cases_eq (d / 64) (c / 64))
  where
    old : ℕ
    old = get_or words (c / 64) 0

    new : ℕ
    new = bit_or old (1 * 2 ^ (c % 64) % 2 ^ 64)

    same : d / 64 ≡ c / 64
        → bit_at (get_or (with_bit words c) (d / 64) 0) (d % 64) ≡ bit_at (get_or words (d / 64) 0) (d % 64)
    same e =
        let differ : d % 64 ≢ c % 64 = λ is. other (cycle_is d c e is) in
        subst (λ (k : ℕ). bit_at (get_or (with_bit words c) k 0) (d % 64) ≡ bit_at (get_or words k 0) (d % 64)) (sym e)
        (ap (λ (w : ℕ). bit_at w (d % 64)) (get_or-set_same words (c / 64) new 0 within)
        ∙ bit_at_set_other w64 old (c % 64) (omega arith) (d % 64) differ)

-- no bit is set in words of 0
pub bit_of_none : (n k i : ℕ) → bit_at (get_or (replicate n 0) k 0) i ≡ 0
bit_of_none n k i =
    let zero_word : get_or (replicate n 0) k 0 ≡ 0 =
    ⊎_elim (λ within. get_or-replicate n k 0 0 within) (λ past. get_or_past (replicate n 0) k 0 (omega (
      arith,
      length-replicate {A = ℕ},
    ))) (cases_lt k n) in
    subst (λ (w : ℕ). bit_at w i ≡ 0) (sym zero_word) (bit_at-zero i)
