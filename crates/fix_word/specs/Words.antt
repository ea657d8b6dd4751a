-- Raw words of fixed-point numbers, over all whole numbers: by range, congruence and floor.
use Rattle.std.specs.Prelude.{◌≡◌, ℕ, zero, suc, ◌-◌, ◌*◌, ◌^◌, ◌≤◌, ℤ, pos, negsuc, ◌+ℤ◌, ◌-ℤ◌, ◌*ℤ◌, neg_ℤ, ◌≤ℤ◌}
use Rattle.std.specs.Prelude.{◌<ℤ◌, Bool, true, false}
use Rattle.fix_word.specs.declared.types.Shape.{Shape}
use Rattle.fix_word.specs.declared.types.Format.{Format}
use Rattle.fix_word.specs.declared.types.Mode.{Mode}
use Rattle.fix_word.specs.declared.types.Mode.TheVariants.{Trunc, Round, Sat, RoundSat}

-- z lies in the range of w bits in two's complement
pub record IsWord (w : ℕ) (z : ℤ) : Type 0 where
  pub low : neg_ℤ (pos (2 ^ (w - 1))) ≤ℤ z
  pub high : z <ℤ pos (2 ^ (w - 1))

-- a number of bits that a word may have
pub record IsWidth (w : ℕ) : Type 0 where
  pub narrowest : 1 ≤ w
  pub widest : w ≤ 40

-- z is a word that a register, a cell of memory or a constant may hold: one of 40 bits
abbrev pub IsMachineWord : ℤ → Type 0
IsMachineWord z = IsWord 40 z

-- a and b differ by a multiple of n
abbrev pub IsCongruent : ℕ → ℤ → ℤ → Type 0
IsCongruent n a b = (k : ℤ) × (a ≡ b +ℤ k *ℤ pos n)

-- m is the word of w bits that is congruent to q modulo 2 ^ w: two's-complement wraparound
pub record IsWrap (q : ℤ) (w : ℕ) (m : ℤ) : Type 0 where
  pub word : IsWord w m
  pub congruent : IsCongruent (2 ^ w) q m

-- the ends of the range of w bits
abbrev pub lowest_word : ℕ → ℤ
lowest_word w = neg_ℤ (pos (2 ^ (w - 1)))

abbrev pub highest_word : ℕ → ℤ
highest_word w = pos (2 ^ (w - 1)) -ℤ pos 1

-- m is the word of w bits that is nearest to q: saturation
pub record IsClip (q : ℤ) (w : ℕ) (m : ℤ) : Type 0 where
  pub below : q <ℤ lowest_word w → m ≡ lowest_word w
  pub above : highest_word w <ℤ q → m ≡ highest_word w
  pub inside : IsWord w q → m ≡ q

-- m is the whole number q brought to w bits as the mode says: by wraparound, or by saturation
abbrev pub IsFit : ℤ → ℕ → Mode → ℤ → Type 0
IsFit q w Trunc m = IsWrap q w m
IsFit q w Round m = IsWrap q w m
IsFit q w Sat m = IsClip q w m
IsFit q w RoundSat m = IsClip q w m

-- r is floor (q / d)
pub record IsFloor (q : ℤ) (d : ℕ) (r : ℤ) : Type 0 where
  pub below : (r *ℤ pos d) ≤ℤ q
  pub above : q <ℤ ((r *ℤ pos d) +ℤ pos d)

-- what a mode adds before the floor of a quotient by 2 * half is taken: half where it rounds to the nearest
abbrev pub rounding : Mode → (half : ℕ) → ℕ
rounding Trunc half = 0
rounding Round half = half
rounding Sat half = 0
rounding RoundSat half = half

-- r is q / 2 ^ shift as a whole number: exact where the shift is at most 0, else by the mode
abbrev pub IsScaled : ℤ → ℤ → Mode → ℤ → Type 0
IsScaled q (negsuc s) mode r = r ≡ q *ℤ pos (2 ^ suc s)
IsScaled q (pos zero) mode r = r ≡ q
IsScaled q (pos (suc s)) mode r = IsFloor (q +ℤ pos (rounding mode (2 ^ s))) (2 ^ suc s) r

-- m is the exact number q quantised to the format: scaled by the shift, then brought to the width
pub record IsForm (q : ℤ) (fmt : Format) (m : ℤ) : Type 0 where
  pub whole : ℤ
  pub scaled : IsScaled q fmt.shift fmt.mode whole
  pub fitted : IsFit whole fmt.width fmt.mode m

-- the overflow mode alone, of a result that has nothing to round: it wraps or saturates as in this mode
abbrev pub overflow_of : Mode → Mode
overflow_of Trunc = Trunc
overflow_of Round = Trunc
overflow_of Sat = Sat
overflow_of RoundSat = Sat

-- a format with a shift of -40 to 80 and a width of 1 to 40 bits
pub record IsFormat (fmt : Format) : Type 0 where
  pub lowest : negsuc 39 ≤ℤ fmt.shift
  pub highest : fmt.shift ≤ℤ pos 80
  pub width : IsWidth fmt.width

-- a shape of 1 to 40 bits, of which any number are fraction bits
pub record IsShape (shape : Shape) : Type 0 where
  pub width : IsWidth shape.w
  pub places : shape.f ≤ shape.w

-- the raw word m with `places` fraction bits, requantised to the shape by the mode, is r
abbrev pub IsConv : ℤ → ℤ → Shape → Mode → ℤ → Type 0
IsConv m places shape mode r = IsForm m (record { shift = places -ℤ pos shape.f; mode = mode; width = shape.w }) r

-- n with its sign
abbrev pub signed : Bool → ℕ → ℤ
signed true n = neg_ℤ (pos n)
signed false n = pos n

-- r is the decimal number ±digits / 10 ^ places times 2 ^ f, as the nearest whole number, a half going up
abbrev pub IsNearest : Bool → ℕ → ℕ → ℕ → ℤ → Type 0
IsNearest negative digits places f r =
    IsFloor (signed negative (2 * digits * 2 ^ f) +ℤ pos (10 ^ places)) (2 * 10 ^ places) r

-- r is the raw word of the decimal number ±digits / 10 ^ places in the shape
pub record IsLiteral (negative : Bool) (digits places : ℕ) (shape : Shape) (r : ℤ) : Type 0 where
  pub nearest : IsNearest negative digits places shape.f r
  pub word : IsWord shape.w r

-- the decimal number ±digits / 10 ^ places has no raw word in the shape: the nearest one is outside the range
pub record IsOutOfRange (negative : Bool) (digits places : ℕ) (shape : Shape) : Type 0 where
  pub raw : ℤ
  pub nearest : IsNearest negative digits places shape.f raw
  pub outside : IsWord shape.w raw → ⊥
