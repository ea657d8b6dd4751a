-- Numbers brought to words of a few bits, and decimal numbers as words.
use Rattle.std.specs.Prelude.{ℤ, pos, negsuc, true, false}
use Rattle.fix_word.specs.Words.{IsForm, IsLiteral}
use Rattle.fix_word.specs.declared.types.Mode.{Mode}
use Rattle.fix_word.specs.declared.types.Mode.TheVariants.{Trunc, Round, Sat, RoundSat}

-- the number divided by 4 is this word of 4 bits, which holds -8 to 7. `negsuc n` is -(n + 1).
abbrev pub IsQuarter : ℤ → Mode → ℤ → Type 0
IsQuarter q mode m = IsForm q (record { shift = pos 2; mode = mode; width = 4 }) m

-- 1.5 and -1.5: the floors are 1 and -2; the nearest, a half going up, are 2 and -1, and not -2
abbrev pub RoundEachWay : Type 0
RoundEachWay =
    IsQuarter (pos 6) Trunc (pos 1) × IsQuarter (negsuc 5) Trunc (negsuc 1)
    × IsQuarter (pos 6) Round (pos 2) × IsQuarter (negsuc 5) Round (negsuc 0)
    × IsQuarter (pos 6) Sat (pos 1) × IsQuarter (negsuc 5) Sat (negsuc 1)
    × IsQuarter (pos 6) RoundSat (pos 2) × IsQuarter (negsuc 5) RoundSat (negsuc 0)
    × (IsQuarter (negsuc 5) Round (negsuc 1) → ⊥)

-- 8.5 and -8.75: 8 and 9 wrap to -8 and -7, -9 wraps to 7; they saturate to 7 and -8. 7.5 as the nearest is 8 too.
abbrev pub OverflowEachWay : Type 0
OverflowEachWay =
    IsQuarter (pos 34) Trunc (negsuc 7) × IsQuarter (negsuc 34) Trunc (pos 7)
    × IsQuarter (pos 34) Round (negsuc 6) × IsQuarter (negsuc 34) Round (pos 7)
    × IsQuarter (pos 34) Sat (pos 7) × IsQuarter (negsuc 34) Sat (negsuc 7)
    × IsQuarter (pos 34) RoundSat (pos 7) × IsQuarter (negsuc 34) RoundSat (negsuc 7)
    × IsQuarter (pos 30) Round (negsuc 7) × IsQuarter (pos 30) RoundSat (pos 7)
    × (IsQuarter (pos 34) Sat (negsuc 7) → ⊥) × (IsQuarter (pos 34) Trunc (pos 7) → ⊥)

-- 3 times 4 is 12, which is -4 in 4 bits and saturates to 7; a shift of 0 changes nothing
abbrev pub ShiftToTheLeft : Type 0
ShiftToTheLeft =
    IsForm (pos 3) (record { shift = negsuc 1; mode = Trunc; width = 4 }) (negsuc 3)
    × IsForm (pos 3) (record { shift = negsuc 1; mode = Sat; width = 4 }) (pos 7)
    × IsForm (negsuc 7) (record { shift = pos 0; mode = Round; width = 4 }) (negsuc 7)

-- 0.5 and -0.5 as whole numbers, 0.1 with 7 fraction bits, which is 12.8 / 128, -1.0 with 15; 1.0 has no word there
abbrev pub NumbersHaveWords : Type 0
NumbersHaveWords =
    IsLiteral false 5 1 (record { w = 8; f = 0 }) (pos 1)
    × IsLiteral true 5 1 (record { w = 8; f = 0 }) (pos 0)
    × IsLiteral false 1 1 (record { w = 8; f = 7 }) (pos 13)
    × IsLiteral true 10 1 (record { w = 16; f = 15 }) (negsuc 32767)
    × ((m : ℤ) → IsLiteral false 10 1 (record { w = 16; f = 15 }) m → ⊥)
