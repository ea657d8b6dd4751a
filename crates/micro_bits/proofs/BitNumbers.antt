-- The bits of bytes that a number has, and zeros.
use Rattle.std.proofs.Common.{◌≡◌, ℕ, zero, suc, ◌+◌, ◌-◌, ◌*◌, ◌/◌, ◌%◌, ◌^◌, ◌<◌, List, [], ◌++◌, length, take, drop}
use Rattle.std.proofs.Common.{replicate, refl, sym, ap, ◌∙◌, arith}
use Rattle.std.proofs.Math.Nat.{pow-suc}
use Rattle.std.proofs.Math.Seq.{take-append-add}
use Rattle.std.proofs.lemmas.Grind.{flat_map-append}
use Rattle.std.proofs.lemmas.List.{take-replicate, drop-replicate}
use Rattle.std.proofs.lemmas.Nat.{pow-add, shr_le}
use Rattle.std.specs.Int.{byte_at, bytes_high_first}
use Rattle.micro_image.specs.Bits.{bits}
use Rattle.micro_image.specs.Spells.{bits_of}
use Rattle.micro_bits.proofs.Bits.{bits_split, bits_mod}

pub bits_none : (w : ℕ) → bits w 0 ≡ replicate w 0
unfolding bits
bits_none zero = refl
bits_none (suc w) =
    let bit : 0 / 2 ^ w % 2 ≡ 0 = omega (arith, shr_le 0 w) in
    rw (bit, bits_none w) refl

-- ---- the bits of bytes

pub bits_of-append : (xs ys : List ℕ) → bits_of (xs ++ ys) ≡ bits_of xs ++ bits_of ys
bits_of-append xs ys = flat_map-append (bits 8) xs ys

pow_of_bytes : (k : ℕ) → 256 ^ k ≡ 2 ^ (8 * k)
pow_of_bytes zero = refl
pow_of_bytes (suc k) =
    let next : 8 * suc k ≡ 8 * k + 8 = omega arith in
    pow-suc 256 k ∙ ap (λ (p : ℕ). p * 256) (pow_of_bytes k) ∙ sym (pow-add 2 (8 * k) 8)
    ∙ ap (λ (w : ℕ). 2 ^ w) (sym next)

byte_is : (k n : ℕ) → byte_at k n ≡ n / 2 ^ (8 * k) % 2 ^ 8
byte_is zero n = omega arith
byte_is (suc k) n = ap (λ (d : ℕ). n / d % 256) (pow_of_bytes (suc k))

both : {a b c d : List ℕ} → a ≡ b → c ≡ d → a ++ c ≡ b ++ d
both p q = cc

pub no_bits : (n : ℕ) → [] ≡ bits 0 n
unfolding bits
no_bits n = refl

-- the lowest bytes of a number
pub bits_of-bytes : (k n : ℕ) → bits_of (bytes_high_first k n) ≡ bits (8 * k) n
bits_of-bytes zero n = no_bits n
bits_of-bytes (suc k) n =
    let first : bits 8 (byte_at k n) ≡ bits 8 (n / 2 ^ (8 * k)) =
    ap (bits 8) (byte_is k n) ∙ bits_mod 8 8 (n / 2 ^ (8 * k)) (omega arith) in
    let next : 8 + 8 * k ≡ 8 * suc k = omega arith in
    both first (bits_of-bytes k n) ∙ sym (bits_split 8 (8 * k) n) ∙ ap (λ (w : ℕ). bits w n) next

-- ---- zeros behind

-- a list with zeros up to a length, and the front of that length
pub filled : (n : ℕ) (xs : List ℕ)
    → length xs < n
    → xs ++ drop (length xs) (replicate n 0) ≡ take n (xs ++ replicate n 0)
filled n xs less =
    let parts : n ≡ length xs + (n - length xs) = omega (arith, less) in
    sym (ap (λ (k : ℕ). take k (xs ++ replicate n 0)) parts ∙ take-append-add xs (replicate n 0) (n - length xs)
    ∙ ap (λ (ys : List ℕ). xs ++ ys)
    (take-replicate (n - length xs) n 0 (omega arith) ∙ sym (drop-replicate (length xs) n 0)))
