-- The bits that are read through a window of eight bytes.
use Rattle.std.proofs.Common.{◌≡◌, ℕ, zero, suc, ◌+◌, ◌-◌, ◌*◌, ◌/◌, ◌%◌, ◌^◌, ◌<◌, ◌≤◌, List, [], ◌∷◌, ◌++◌, length}
use Rattle.std.proofs.Common.{get_or, take, drop, replicate, refl, sym, ap, subst, ◌∙◌, arith, inl, inr, Ok, Err, true}
use Rattle.std.proofs.Common.{false, ◌≢◌}
use Rattle.std.proofs.lemmas.Nat.{pow_pos}
use Rattle.std.proofs.Math.Nat.{mod-lt, mod-eq_of_lt, div-add-mod', pow-le-pow_right}
use Rattle.std.proofs.Math.Seq.{drop-append-add, take-append-add, get_or-append_right}
use Rattle.std.proofs.Math.ListN.{get_or-append}
use Rattle.std.specs.Prelude.{nat_lt}
use Rattle.std.proofs.lemmas.Bool.{cases_lt, le-ltb, lt-ltb}
use Rattle.std.proofs.lemmas.List.{length-append, length-drop, length-take-le, take_at, drop_at}
use Rattle.std.proofs.lemmas.List.{take-append-le, take-append-drop, drop-append-le, drop-drop, drop-take, take-take}
use Rattle.std.proofs.lemmas.List.{get_or-drop}
use Rattle.std.proofs.lemmas.List.{get_or-take, get_or_past, get_or-replicate}
use Rattle.std.proofs.lemmas.Nat.{shr-shr, shr_below, field_of, shl-shr, be_bytes_8, leading_length}
use Rattle.std.specs.Int.{w64, from_be_bytes}
use Rattle.std.specs.Int.Count.{count_leading_zeros}
use Rattle.micro_image.specs.Bits.{bits}
use Rattle.micro_image.specs.Spells.{bits_of}
use Rattle.micro_image.proofs.Length.{length-bits, length-bits_of}
use Rattle.micro_bits.specs.declared.fault.BitFault.TheVariants.{Short}
use Rattle.micro_bits.specs.Numbers.{number_of, number_at, some_at}
use Rattle.micro_bits.proofs.Bits.{bits_split, bits_mod, number_bits}
use Rattle.micro_bits.proofs.BitNumbers.{bits_of-append, bits_of-bytes, bits_none}

drop-nil : (n : ℕ) → drop {A = ℕ} n [] ≡ []
drop-nil zero = refl
drop-nil (suc n) = refl

take-nil : (n : ℕ) → take {A = ℕ} n [] ≡ []
take-nil zero = refl
take-nil (suc n) = refl

-- whole bytes, left out
drop_bytes : (q : ℕ) (bytes : List ℕ) → drop (8 * q) (bits_of bytes) ≡ bits_of (drop q bytes)
drop_bytes zero bytes = refl
drop_bytes (suc q) [] = drop-nil (8 * suc q)
drop_bytes (suc q) (b ∷ bytes) =
    let next : 8 * suc q ≡ length (bits 8 b) + 8 * q = omega (arith, length-bits 8 b) in
    ap (λ (k : ℕ). drop k (bits 8 b ++ bits_of bytes)) next ∙ drop-append-add (bits 8 b) (bits_of bytes) (8 * q)
    ∙ drop_bytes q bytes

-- whole bytes, taken
pub take_bytes : (q : ℕ) (bytes : List ℕ) → take (8 * q) (bits_of bytes) ≡ bits_of (take q bytes)
take_bytes zero bytes = refl
take_bytes (suc q) [] = take-nil (8 * suc q)
take_bytes (suc q) (b ∷ bytes) =
    let next : 8 * suc q ≡ length (bits 8 b) + 8 * q = omega (arith, length-bits 8 b) in
    ap (λ (k : ℕ). take k (bits 8 b ++ bits_of bytes)) next ∙ take-append-add (bits 8 b) (bits_of bytes) (8 * q)
    ∙ ap (λ (xs : List ℕ). bits 8 b ++ xs) (take_bytes q bytes)

-- bits in the middle of a number
middle : (r count k n : ℕ) → take count (drop r (bits (r + (count + k)) n)) ≡ bits count (n / 2 ^ k)
middle r count k n =
    ap (λ (xs : List ℕ). take count (drop r xs)) (bits_split r (count + k) n)
    ∙ ap (take count)
    (drop_at (bits r (n / 2 ^ (count + k))) (bits (count + k) n) r (length-bits r (n / 2 ^ (count + k))))
    ∙ ap (take count) (bits_split count k n)
    ∙ take_at (bits count (n / 2 ^ k)) (bits k n) count (length-bits count (n / 2 ^ k))

-- a number moved up and down again
pub moved : (r count k n : ℕ)
    → count < 64
    → r + (count + k) ≡ 64
    → n * 2 ^ r % 2 ^ 64 / 2 / 2 ^ (63 - count) ≡ n / 2 ^ k % 2 ^ count
moved r count k n few all =
    let down : 1 + (63 - count) ≡ r + k = omega (arith, few, all) in
    let size : 64 ≡ count + (r + k) = omega (arith, all) in
    shr-shr (n * 2 ^ r % 2 ^ 64) 1 (63 - count)
    ∙ ap (λ (d : ℕ). n * 2 ^ r % 2 ^ 64 / 2 ^ d) down
    ∙ ap (λ (w : ℕ). n * 2 ^ r % 2 ^ w / 2 ^ (r + k)) size
    ∙ field_of (n * 2 ^ r) count (r + k)
    ∙ ap (λ (m : ℕ). m % 2 ^ count) (sym (shr-shr (n * 2 ^ r) r k) ∙ ap (λ (m : ℕ). m / 2 ^ k) (shl-shr n r))

many : (xs : List ℕ) → 8 ≤ length (xs ++ replicate 8 0)
many xs = omega (arith, length-append xs (replicate 8 0))

-- the bytes of a window
windowed : (xs : List ℕ) (i : ℕ) → ((i : ℕ) → get_or xs i 0 < 256) → get_or (take 8 (xs ++ replicate 8 0)) i 0 < 256
windowed xs i small = elim (cases_lt i 8) [
  | inl less ↦ rw (get_or-take 8 (xs ++ replicate 8 0) i 0 less) (elim (cases_lt i (length xs)) [
    | inl inside ↦ rw (get_or-append xs (replicate 8 0) 0 i inside) (small i)
    | inr past ↦ rw (get_or-append_right xs (replicate 8 0) i 0 past) (
        rw (get_or-replicate {A = ℕ} 8 (i - length xs) 0 0 (omega (arith, less))) (omega arith))
  ])
  | inr past ↦ rw (get_or_past (take 8 (xs ++ replicate 8 0)) i 0
      (omega (arith, past, length-take-le 8 (xs ++ replicate 8 0) (many xs)))) (omega arith)
]

-- the bits of a window
pub window_bits : (bytes : List ℕ) (from window : ℕ)
    → ((i : ℕ) → get_or bytes i 0 < 256)
    → window ≡ from_be_bytes w64 (take 8 (drop from bytes ++ replicate 8 0))
    → bits_of (take 8 (drop from bytes ++ replicate 8 0)) ≡ bits 64 window
window_bits bytes from window small e =
    let xs : List ℕ = drop from bytes in
    let each : (i : ℕ) → get_or xs i 0 < 256 = λ i. rw (get_or-drop from bytes i 0) (small (from + i)) in
    let whole : length (take 8 (xs ++ replicate 8 0)) ≡ 8 = length-take-le 8 (xs ++ replicate 8 0) (many xs) in
    ap bits_of (sym (be_bytes_8 (take 8 (xs ++ replicate 8 0)) window whole (λ i. windowed xs i each) e))
    ∙ bits_of-bytes 8 window

-- the bits at the front are those of the window
through_window : (xs : List ℕ) (r count : ℕ)
    → r + count ≤ 8 * length xs
    → r + count ≤ 64
    → take count (drop r (bits_of (take 8 (xs ++ replicate 8 0)))) ≡ take count (drop r (bits_of xs))
through_window xs r count there few =
    let all : List ℕ = bits_of xs ++ bits_of (replicate 8 0) in
    let some : length (bits_of xs) ≡ 8 * length xs = length-bits_of xs in
    let left : length (drop r (bits_of xs)) ≡ length (bits_of xs) - r = length-drop r (bits_of xs) in
    let parts : 64 ≡ r + (64 - r) = omega (arith, few) in
    ap (λ (ys : List ℕ). take count (drop r ys))
    (sym (take_bytes 8 (xs ++ replicate 8 0)) ∙ ap (take 64) (bits_of-append xs (replicate 8 0)))
    ∙ ap (λ (k : ℕ). take count (drop r (take k all))) parts
    ∙ ap (take count) (drop-take r (64 - r) all)
    ∙ take-take count (64 - r) (drop r all) (omega (arith, few))
    ∙ ap (take count) (drop-append-le r (bits_of xs) (bits_of (replicate 8 0)) (omega (arith, some, there)))
    ∙ take-append-le count (drop r (bits_of xs)) (bits_of (replicate 8 0)) (omega (arith, some, left, there))

-- what the window has, moved to its place, are the bits from there on
pub peeked : (bytes : List ℕ) (at count window : ℕ)
    → at + count ≤ 8 * length bytes
    → count ≤ 57
    → bits_of (take 8 (drop (at / 8) bytes ++ replicate 8 0)) ≡ bits 64 window
    → take count (drop at (bits_of bytes)) ≡ bits count (window * 2 ^ (at % 8) % 2 ^ 64 / 2 / 2 ^ (63 - count))
peeked bytes at count window there few e =
    let q : ℕ = at / 8 in
    let r : ℕ = at % 8 in
    let k : ℕ = 64 - (r + count) in
    let xs : List ℕ = drop q bytes in
    let less : r < 8 = mod-lt at (omega arith) in
    let place : at ≡ 8 * q + r = omega (arith, div-add-mod' at 8) in
    let behind : length xs ≡ length bytes - q = length-drop q bytes in
    let sizes : 64 ≡ r + (count + k) = omega (arith, less, few) in
    let start : drop at (bits_of bytes) ≡ drop r (bits_of xs) =
    ap (λ (n : ℕ). drop n (bits_of bytes)) place ∙ sym (drop-drop r (8 * q) (bits_of bytes))
    ∙ ap (drop r) (drop_bytes q bytes) in
    ap (take count) start
    ∙ sym (through_window xs r count (omega (arith, there, place, behind, less)) (omega (arith, less, few)))
    ∙ ap (λ (ys : List ℕ). take count (drop r ys))
    (e ∙ ap (λ (w : ℕ). bits w window) sizes)
    ∙ middle r count k window
    ∙ sym (bits_mod count count (window / 2 ^ k) (omega arith))
    ∙ ap (bits count) (sym (moved r count k window (omega (arith, few)) (sym sizes)))

pub peeked_below : (count n : ℕ) → count < 64 → n % 2 ^ 64 / 2 / 2 ^ (63 - count) < 2 ^ count
peeked_below count n few =
    let down : 1 + (63 - count) ≡ 64 - count = omega (arith, few) in
    let size : 64 ≡ count + (64 - count) = omega (arith, few) in
    let less : n % 2 ^ 64 < 2 ^ (count + (64 - count)) =
    subst (λ (w : ℕ). n % 2 ^ 64 < 2 ^ w) size (mod-lt n (omega arith)) in
    subst (λ (m : ℕ). m < 2 ^ count)
    (sym (shr-shr (n % 2 ^ 64) 1 (63 - count) ∙ ap (λ (d : ℕ). n % 2 ^ 64 / 2 ^ d) down))
    (shr_below (n % 2 ^ 64) count (64 - count) less)

-- how many bits are left behind a place
pub bits_left : (bytes : List ℕ) (at : ℕ) (left : List ℕ)
    → drop at (bits_of bytes) ≡ left
    → length left ≡ 8 * length bytes - at
bits_left bytes at left e =
    sym (ap length e) ∙ length-drop at (bits_of bytes) ∙ ap (λ (n : ℕ). n - at) (length-bits_of bytes)

-- the bits that are read, and those behind
pub bits_read : (bytes : List ℕ) (at count n : ℕ) (left : List ℕ)
    → drop at (bits_of bytes) ≡ left
    → count ≤ length left
    → take count left ≡ bits count n
    → some_at count left ≡ Ok (bits count n, drop (at + count) (bits_of bytes))
unfolding some_at
bits_read bytes at count n left e there front =
    let enough : nat_lt (length left) count ≡ false = le-ltb (length left) count there in
    let behind : drop count left ≡ drop (at + count) (bits_of bytes) =
    ap (drop count) (sym e) ∙ drop-drop count at (bits_of bytes) in
    rw (enough, front, behind) refl

pub bits_missing : (count : ℕ) (left : List ℕ) → length left < count → some_at count left ≡ Err Short
unfolding some_at
bits_missing count left few =
    let missing : nat_lt (length left) count ≡ true = lt-ltb (length left) count few in
    rw missing refl

-- the number that has the bits that are read
pub number_read : (count n : ℕ) (left behind : List ℕ)
    → n < 2 ^ count
    → some_at count left ≡ Ok (bits count n, behind)
    → number_at count left ≡ Ok (n, behind)
number_read count n left behind less e =
    let same : number_of (bits count n) ≡ n = number_bits count n ∙ mod-eq_of_lt less in
    rw (e, same) refl

pub number_missing : (count : ℕ) (left : List ℕ) → some_at count left ≡ Err Short → number_at count left ≡ Err Short
number_missing count left e = rw e refl

-- zeros in front
pub zeros_read : (bytes : List ℕ) (at count n : ℕ) (left : List ℕ)
    → drop at (bits_of bytes) ≡ left
    → take count left ≡ bits count n
    → n ≡ 0
    → left ≡ replicate count 0 ++ drop (at + count) (bits_of bytes)
zeros_read bytes at count n left e front none =
    let zeros : take count left ≡ replicate count 0 = front ∙ ap (bits count) none ∙ bits_none count in
    let behind : drop count left ≡ drop (at + count) (bits_of bytes) =
    ap (drop count) (sym e) ∙ drop-drop count at (bits_of bytes) in
    sym (take-append-drop count left) ∙ rw (zeros, behind) refl

-- a number other than 0 has not only zeros
pub some_bit : (count n : ℕ) (left : List ℕ)
    → take count left ≡ bits count n
    → n < 2 ^ count
    → n ≢ 0
    → take count left ≢ replicate count 0
some_bit count n left front below some zeros =
    some (sym (mod-eq_of_lt below) ∙ sym (number_bits count n)
    ∙ ap number_of (sym front ∙ zeros ∙ sym (bits_none count)) ∙ number_bits count 0
    ∙ mod-eq_of_lt (pow_pos count))

-- in front of a number's first 1 there are zeros
pub front_none : (n count : ℕ)
    → n < 2 ^ 64
    → count < 64
    → count ≤ count_leading_zeros 64 n
    → n / 2 / 2 ^ (63 - count) ≡ 0
front_none n count less few h =
    let lead = leading_length 64 n less in
    let powers : 2 ^ lead.0 ≤ 2 ^ (64 - count) =
    pow-le-pow_right {n = 2} (omega arith) {j = 64 - count} (omega (arith, lead.1, h)) in
    let below : n < 2 ^ (64 - count) = omega (arith, lead.2, powers) in
    let whole : 64 - count ≡ 0 + (64 - count) = omega arith in
    let small : n / 2 ^ (64 - count) < 1 = shr_below n 0 (64 - count) (subst (λ (w : ℕ). n < 2 ^ w) whole below) in
    let down : 1 + (63 - count) ≡ 64 - count = omega (arith, few) in
    let same : n / 2 / 2 ^ (63 - count) ≡ n / 2 ^ (64 - count) =
    shr-shr n 1 (63 - count) ∙ ap (λ (d : ℕ). n / 2 ^ d) down in
    omega (arith, small, same)
