-- The one number of each relation, as a function that computes.
use Rattle.std.specs.Prelude.{ℕ, zero, suc, ◌-◌, ◌*◌, ◌/◌, ◌^◌, ℤ, pos, negsuc, ◌+ℤ◌, ◌-ℤ◌, ◌*ℤ◌, neg_ℤ, int_lt, int_le}
use Rattle.std.specs.Prelude.{Bool, true, false, not, ◌&&◌, ◌||◌}
use Rattle.std.specs.Ordering.{int_eq}
use Rattle.fix_word.specs.Words.{signed, lowest_word, highest_word, rounding}
use Rattle.fix_word.specs.declared.types.Shape.{Shape}
use Rattle.fix_word.specs.declared.types.Format.{Format}
use Rattle.fix_word.specs.declared.types.Mode.{Mode}
use Rattle.fix_word.specs.declared.types.Mode.TheVariants.{Trunc, Round, Sat, RoundSat}
use Rattle.fix_word.specs.declared.operation.Op.{Op}
use Rattle.fix_word.specs.declared.operation.Op.TheVariants.{Add, Sub, Neg, Pass, Lt, Le, Eq, Ne, And, Or, Not, Mul}
use Rattle.fix_word.specs.declared.operation.Op.TheVariants.{Sel}

-- floor (q / d)
abbrev pub floor_of : ℤ → ℕ → ℤ
floor_of (pos n) d = pos (n / d)
floor_of (negsuc n) d = negsuc (n / d)

-- the word of w bits that is congruent to q modulo 2 ^ w
unfoldable pub wrap_of : ℤ → ℕ → ℤ
wrap_of q w = q -ℤ floor_of (q +ℤ pos (2 ^ (w - 1))) (2 ^ w) *ℤ pos (2 ^ w)

-- the end of the range of w bits on the side on which q is outside, and q where it is on none
abbrev pub clip_by : (below above : Bool) → ℤ → ℕ → ℤ
clip_by true above q w = lowest_word w
clip_by false true q w = highest_word w
clip_by false false q w = q

-- the word of w bits that is nearest to q
unfoldable pub clip_of : ℤ → ℕ → ℤ
clip_of q w = clip_by (int_lt q (lowest_word w)) (int_lt (highest_word w) q) q w

-- q brought to w bits as the mode says
abbrev pub fit_of : ℤ → ℕ → Mode → ℤ
fit_of q w Trunc = wrap_of q w
fit_of q w Round = wrap_of q w
fit_of q w Sat = clip_of q w
fit_of q w RoundSat = clip_of q w

-- q / 2 ^ shift, brought to a whole number by the mode
abbrev pub scaled_of : ℤ → ℤ → Mode → ℤ
scaled_of q (negsuc s) mode = q *ℤ pos (2 ^ suc s)
scaled_of q (pos zero) mode = q
scaled_of q (pos (suc s)) mode = floor_of (q +ℤ pos (rounding mode (2 ^ s))) (2 ^ suc s)

-- the exact number q in the format
abbrev pub form_of : ℤ → Format → ℤ
form_of q fmt = fit_of (scaled_of q fmt.shift fmt.mode) fmt.width fmt.mode

-- the raw word m with `places` fraction bits, requantised to the shape
abbrev pub conv_of : ℤ → ℤ → Shape → Mode → ℤ
conv_of m places shape mode = form_of m (record { shift = places -ℤ pos shape.f; mode = mode; width = shape.w })

-- ±digits / 10 ^ places times 2 ^ f, as the nearest whole number, a half going up
abbrev pub nearest_of : Bool → ℕ → ℕ → ℕ → ℤ
nearest_of negative digits places f =
    floor_of (signed negative (2 * digits * 2 ^ f) +ℤ pos (10 ^ places)) (2 * 10 ^ places)

-- 1 for true, and 0 for false
abbrev pub bit_of : Bool → ℤ
bit_of true = pos 1
bit_of false = pos 0

-- whether the number stands for true
abbrev pub truth_of : ℤ → Bool
truth_of z = not (int_eq z (pos 0))

-- b for true, and c for false
abbrev pub choice_of : Bool → ℤ → ℤ → ℤ
choice_of true b c = b
choice_of false b c = c

-- the result of an operation from Add to Sel, and 0 for the others
abbrev pub apply_of : Op → Format → ℤ → ℤ → ℤ → ℤ
apply_of Add fmt a b c = form_of (a +ℤ b) fmt
apply_of Sub fmt a b c = form_of (a -ℤ b) fmt
apply_of Neg fmt a b c = form_of (neg_ℤ a) fmt
apply_of Pass fmt a b c = form_of a fmt
apply_of Mul fmt a b c = form_of (a *ℤ b) fmt
apply_of Lt fmt a b c = bit_of (int_lt a b)
apply_of Le fmt a b c = bit_of (int_le a b)
apply_of Eq fmt a b c = bit_of (int_eq a b)
apply_of Ne fmt a b c = bit_of (not (int_eq a b))
apply_of And fmt a b c = bit_of (truth_of a && truth_of b)
apply_of Or fmt a b c = bit_of (truth_of a || truth_of b)
apply_of Not fmt a b c = bit_of (int_eq a (pos 0))
apply_of Sel fmt a b c = choice_of (truth_of a) b c
apply_of op fmt a b c = pos 0
