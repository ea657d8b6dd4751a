-- A number has one floor.
use Rattle.std.proofs.Common.{arith, ◌≡◌, ap, ℕ, zero, suc, ◌<◌, ◌+◌, ◌*◌, ℤ, pos, negsuc, ◌+ℤ◌, ◌-ℤ◌, ◌*ℤ◌}
use Rattle.std.proofs.lemmas.Int.{ints}
use borrow.Author.Differences.{up, down}
use Rattle.fix_word.specs.Words.{IsFloor}
use Rattle.fix_word.specs.Values.{floor_of}

pub floor_is : (q : ℤ) (d : ℕ) → 0 < d → IsFloor q d (floor_of q d)
floor_is (pos n) d h = record { below = omega (arith, ints); above = omega (arith, ints) }
floor_is (negsuc n) d h = record { below = omega (arith, ints); above = omega (arith, ints) }

-- a difference times a number
pub times_apart : (l k : ℤ) (n : ℕ) → (l -ℤ k) *ℤ pos n ≡ l *ℤ pos n -ℤ k *ℤ pos n
times_apart l k n =
    let e : up (l -ℤ k) + down l + up k ≡ down (l -ℤ k) + up l + down k = omega (arith, ints) in
    let f : (up (l -ℤ k) + down l + up k) * n ≡ (down (l -ℤ k) + up l + down k) * n = ap (λ (t : ℕ). t * n) e in
    omega (arith, ints)

same_floor : (apart q r r' : ℤ) (d : ℕ)
    → r *ℤ pos d ≡ r' *ℤ pos d +ℤ apart *ℤ pos d
    → r ≡ r' +ℤ apart
    → IsFloor q d r
    → IsFloor q d r'
    → r ≡ r'
same_floor (pos zero) q r r' d e f x y = omega (arith, ints)
same_floor (pos (suc j)) q r r' d e f x y = absurd (omega (arith, ints, x.below, x.above, y.below, y.above))
same_floor (negsuc j) q r r' d e f x y = absurd (omega (arith, ints, x.below, x.above, y.below, y.above))

pub floor_unique : (q : ℤ) (d : ℕ) (r r' : ℤ) → IsFloor q d r → IsFloor q d r' → r ≡ r'
floor_unique q d r r' x y =
    same_floor (r -ℤ r') q r r' d (omega (arith, ints, times_apart r r' d)) (omega (arith, ints)) x y
