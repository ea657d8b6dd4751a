-- A number has one wrapped word.
use Rattle.std.proofs.Common.{arith, ◌≡◌, ap, ℕ, zero, suc, ◌^◌, ◌≤◌, ◌+◌, ◌-◌, ◌*◌, ℤ, pos, negsuc, ◌+ℤ◌, ◌-ℤ◌, ◌*ℤ◌}
use Rattle.std.proofs.Common.{neg_ℤ, ◌≤ℤ◌, ◌<ℤ◌}
use Rattle.std.proofs.lemmas.Int.{ints}
use Rattle.std.proofs.lemmas.Nat.{pow_pos}
use Rattle.std.proofs.lemmas.Grind.{pow_more}
use Rattle.std.proofs.Math.Pow.{pow_mono}
use Rattle.fix_word.specs.Words.{IsWord, IsWrap, IsFloor}
use Rattle.fix_word.specs.Values.{floor_of, wrap_of}
use Rattle.fix_word.proofs.Floors.{floor_is, times_apart}

-- a word of a width is a word of each greater width
pub word_wider : (w v : ℕ) (z : ℤ) → w ≤ v → IsWord w z → IsWord v z
word_wider w v z few word =
    let more : 2 ^ (w - 1) ≤ 2 ^ (v - 1) = pow_mono {j = v - 1} (omega arith) in
    record { low = omega (arith, ints, word.low); high = omega (arith, ints, word.high) }

-- the range has as many numbers below 0 as from 0 up
pub two_halves : (w : ℕ) → 1 ≤ w → 2 ^ w ≡ 2 * 2 ^ (w - 1)
two_halves w h =
    let e : w ≡ w - 1 + 1 = omega arith in
    let f : 2 ^ w ≡ 2 ^ (w - 1 + 1) = ap (λ (k : ℕ). 2 ^ k) e in
    omega (arith, f, pow_more 2 (w - 1))

pub wrap_is : (q : ℤ) (w : ℕ) → 1 ≤ w → IsWrap q w (wrap_of q w)
unfolding wrap_of
wrap_is q w h =
    let e : 2 ^ w ≡ 2 * 2 ^ (w - 1) = two_halves w h in
    let f : IsFloor (q +ℤ pos (2 ^ (w - 1))) (2 ^ w) (floor_of (q +ℤ pos (2 ^ (w - 1))) (2 ^ w)) =
    floor_is (q +ℤ pos (2 ^ (w - 1))) (2 ^ w) (pow_pos w) in
    record {
      word = record { low = omega (arith, ints, f.below, f.above); high = omega (arith, ints, f.below, f.above) };
      congruent = (floor_of (q +ℤ pos (2 ^ (w - 1))) (2 ^ w), omega (arith, ints));
    }

pub wrap_word : (q : ℤ) (w : ℕ) → 1 ≤ w → IsWord w (wrap_of q w)
wrap_word q w h = (wrap_is q w h).word

same_word : (apart m m' : ℤ) (n half : ℕ)
    → n ≡ 2 * half
    → m ≡ m' +ℤ apart *ℤ pos n
    → neg_ℤ (pos half) ≤ℤ m
    → m <ℤ pos half
    → neg_ℤ (pos half) ≤ℤ m'
    → m' <ℤ pos half
    → m ≡ m'
same_word (pos zero) m m' n half e f a b a' b' = omega (arith, ints)
same_word (pos (suc j)) m m' n half e f a b a' b' = absurd (omega (arith, ints))
same_word (negsuc j) m m' n half e f a b a' b' = absurd (omega (arith, ints))

pub wrap_unique : (q : ℤ) (w : ℕ) (m m' : ℤ) → 1 ≤ w → IsWrap q w m → IsWrap q w m' → m ≡ m'
wrap_unique q w m m' h x y =
    let k : ℤ = x.congruent.0 in
    let l : ℤ = y.congruent.0 in
    let e : q ≡ m +ℤ k *ℤ pos (2 ^ w) = x.congruent.1 in
    let f : q ≡ m' +ℤ l *ℤ pos (2 ^ w) = y.congruent.1 in
    let g : m ≡ m' +ℤ (l -ℤ k) *ℤ pos (2 ^ w) = omega (arith, ints, times_apart l k (2 ^ w)) in
    same_word (l -ℤ k) m m' (2 ^ w) (2 ^ (w - 1)) (two_halves w h) g x.word.low x.word.high y.word.low y.word.high

-- a word is its own wrapped word
pub wrap_of_word : (z : ℤ) (w : ℕ) → 1 ≤ w → IsWord w z → wrap_of z w ≡ z
wrap_of_word z w h word =
    wrap_unique z w (wrap_of z w) z h (wrap_is z w h) (record { word = word; congruent = (pos 0, omega (arith, ints)) })
