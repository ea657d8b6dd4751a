-- What a writer of bits does to a word that is filled.
use Rattle.std.proofs.Common.{◌≡◌, ℕ, ◌+◌, ◌-◌, ◌*◌, ◌/◌, ◌%◌, ◌^◌, ◌<◌, ◌≤◌, List, [], ◌++◌, length}
use Rattle.std.proofs.Common.{take, replicate, sym, ap, ◌∙◌, append_assoc, arith}
use Rattle.std.specs.Int.{w64, to_be_bytes}
use Rattle.std.proofs.Math.Nat.{mod-add-div, add-mul-mod_self_left, mod-lt, mod-eq_of_lt, div-lt_iff_lt-mul}
use Rattle.std.proofs.Math.Pow.{pow-lt}
use Rattle.std.proofs.Math.Seq.{take-append-add}
use Rattle.std.proofs.lemmas.List.{take-replicate, append-nil}
use Rattle.std.proofs.lemmas.Nat.{pow-add, pow_pos}
use Rattle.micro_image.specs.Bits.{bits}
use Rattle.micro_image.specs.Spells.{bits_of}
use Rattle.micro_image.proofs.Length.{length-bits}
use Rattle.micro_bits.proofs.Bits.{bits_split, bits_mod, bits_behind}
use Rattle.micro_bits.proofs.BitNumbers.{bits_of-append, bits_of-bytes, bits_none}
use Rattle.micro_bits.proofs.BitWindow.{take_bytes}

mod_sum : (x b m : ℕ) → (x % m + b) % m ≡ (x + b) % m
mod_sum x b m =
    sym (add-mul-mod_self_left (x % m + b) m (x / m))
    ∙ ap (λ (k : ℕ). k % m) (omega (arith, mod-add-div x m))

-- what a word holds once a number is put behind its bits
abbrev pub joined_word : (word v low : ℕ) → ℕ
joined_word word v low = ((word * 2 ^ v) % 2 ^ 64 + low) % 2 ^ 64

-- its lowest bits
pub joined_bits : (w v word low : ℕ)
    → w + v ≤ 64
    → low < 2 ^ v
    → bits (w + v) (joined_word word v low) ≡ bits w word ++ bits v low
joined_bits w v word low le lt =
    ap (bits (w + v)) (mod_sum (word * 2 ^ v) low (2 ^ 64))
    ∙ bits_mod (w + v) 64 (word * 2 ^ v + low) le ∙ bits_behind w v word low lt

-- there is room for the number
pub put_bits : (bytes : List ℕ) (count n word number : ℕ)
    → count + n ≤ 64
    → bits_of bytes ++ bits (count + n) (joined_word word n (number % 2 ^ n))
    ≡ (bits_of bytes ++ bits count word) ++ bits n number
put_bits bytes count n word number le =
    ap (λ (t : List ℕ). bits_of bytes ++ t)
    (joined_bits count n word (number % 2 ^ n) le (mod-lt number (pow_pos n))
    ∙ ap (λ (t : List ℕ). bits count word ++ t) (bits_mod n n number (omega arith)))
    ∙ sym (append_assoc (bits_of bytes) (bits count word) (bits n number))

high_part : (free rest low : ℕ) → low < 2 ^ (free + rest) → low / 2 ^ rest < 2 ^ free
high_part free rest low lt =
    (div-lt_iff_lt-mul (pow_pos rest)).1 (rw (pow-add 2 free rest) at lt)

-- the number fills the word, and goes on behind it
pub full_bits : (bytes : List ℕ) (count free rest word number : ℕ)
    → count + free ≡ 64
    → bits_of (bytes ++ to_be_bytes w64 (joined_word word free ((number % 2 ^ (free + rest)) / 2 ^ rest)))
    ++ bits rest (number % 2 ^ (free + rest)) ≡ (bits_of bytes ++ bits count word) ++ bits (free + rest) number
full_bits bytes count free rest word number whole =
    let n = free + rest in
    let low = number % 2 ^ n in
    let high = low / 2 ^ rest in
    let lt : low < 2 ^ n = mod-lt number (pow_pos n) in
    let full = joined_word word free high in
    let word_is : bits_of (to_be_bytes w64 full) ≡ bits count word ++ bits free high =
    bits_of-bytes 8 full ∙ ap (λ (k : ℕ). bits k full) (sym whole)
    ∙ joined_bits count free word high (omega (arith, whole)) (high_part free rest low lt) in
    let number_is : bits free high ++ bits rest low ≡ bits n number =
    sym (bits_split free rest low) ∙ bits_mod n n number (omega arith) in
    ap (λ (t : List ℕ). t ++ bits rest low) (bits_of-append bytes (to_be_bytes w64 full))
    ∙ append_assoc (bits_of bytes) (bits_of (to_be_bytes w64 full)) (bits rest low)
    ∙ ap (λ (t : List ℕ). bits_of bytes ++ (t ++ bits rest low)) word_is
    ∙ ap (λ (t : List ℕ). bits_of bytes ++ t) (append_assoc (bits count word) (bits free high) (bits rest low))
    ∙ ap (λ (t : List ℕ). bits_of bytes ++ (bits count word ++ t)) number_is
    ∙ sym (append_assoc (bits_of bytes) (bits count word) (bits n number))

-- the last bytes, filled with zeros
pub last_bits : (bytes : List ℕ) (count free k word : ℕ)
    → count + free ≡ 64
    → count ≤ 8 * k
    → k ≤ 8
    → bits_of (bytes ++ take k (to_be_bytes w64 ((word * 2 ^ free) % 2 ^ 64)))
    ≡ (bits_of bytes ++ bits count word) ++ replicate (8 * k - count) 0
last_bits bytes count free k word whole some few =
    let full = (word * 2 ^ free) % 2 ^ 64 in
    let more = 8 * k - count in
    let spelled : bits 64 full ≡ bits count word ++ replicate free 0 =
    bits_mod 64 64 (word * 2 ^ free) (omega arith)
    ∙ ap (λ (j : ℕ). bits j (word * 2 ^ free)) (sym whole)
    ∙ ap (bits (count + free)) (omega arith)
    ∙ bits_behind count free word 0 (pow_pos free)
    ∙ ap (λ (t : List ℕ). bits count word ++ t) (bits_none free) in
    let at : 8 * k ≡ length (bits count word) + more = omega (arith, some, length-bits count word) in
    let front : take (8 * k) (bits count word ++ replicate free 0) ≡ bits count word ++ replicate more 0 =
    ap (λ (j : ℕ). take j (bits count word ++ replicate free 0)) at
    ∙ take-append-add (bits count word) (replicate free 0) more
    ∙ ap (λ (t : List ℕ). bits count word ++ t) (take-replicate more free 0 (omega (arith, whole, few))) in
    let last : bits_of (take k (to_be_bytes w64 full)) ≡ bits count word ++ replicate more 0 =
    sym (take_bytes k (to_be_bytes w64 full)) ∙ ap (take (8 * k)) (bits_of-bytes 8 full ∙ spelled) ∙ front in
    bits_of-append bytes (take k (to_be_bytes w64 full))
    ∙ ap (λ (t : List ℕ). bits_of bytes ++ t) last
    ∙ sym (append_assoc (bits_of bytes) (bits count word) (replicate more 0))

pub one_shifted : (n : ℕ) → n < 64 → (1 * 2 ^ n) % 2 ^ 64 ≡ 2 ^ n
one_shifted n lt = ap (λ (k : ℕ). k % 2 ^ 64) (omega arith) ∙ mod-eq_of_lt (pow-lt lt)

-- there is nothing behind the bytes
pub no_bits : (bytes : List ℕ) (count word : ℕ)
    → count ≡ 0
    → bits_of bytes ≡ (bits_of bytes ++ bits count word) ++ []
unfolding bits
no_bits bytes count word is =
    sym (append-nil (bits_of bytes)) ∙ sym (append-nil (bits_of bytes ++ []))
    ∙ ap (λ (k : ℕ). (bits_of bytes ++ bits k word) ++ []) (sym is)
