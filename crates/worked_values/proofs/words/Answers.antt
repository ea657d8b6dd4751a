-- The words are those that the functions beside the relations compute, and each relation holds of one word alone.
use Rattle.std.proofs.Common.{◌≡◌, ◌≢◌, refl, arith, ℤ, pos, negsuc}
use Rattle.std.proofs.lemmas.Int.{ints}
use Rattle.fix_word.specs.Values.{wrap_of, clip_of, form_of}
use Rattle.fix_word.specs.Words.{IsWidth}
use Rattle.fix_word.specs.declared.types.Format.{Format}
use Rattle.fix_word.specs.declared.types.Mode.{Mode}
use Rattle.fix_word.specs.declared.types.Mode.TheVariants.{Trunc, Round, Sat, RoundSat}
use Rattle.fix_word.proofs.Forms.{form_is, form_unique}
use Rattle.worked_values.specs.Words.{RoundEachWay, OverflowEachWay, IsQuarter}
use Rattle.worked_values.proofs.words.Goals as goal

four : IsWidth 4
four = record { narrowest = omega arith; widest = omega arith }

abbrev quarter : Mode → Format
quarter mode = record { shift = pos 2; mode = mode; width = 4 }

-- the word of a quarter, and no other
is_quarter : (q : ℤ) (mode : Mode) (m : ℤ) → form_of q (quarter mode) ≡ m → IsQuarter q mode m
is_quarter q mode m e = rw e at (form_is q (quarter mode) four)

no_quarter : (q : ℤ) (mode : Mode) (m other : ℤ) → IsQuarter q mode m → m ≢ other → IsQuarter q mode other → ⊥
no_quarter q mode m other is apart h = apart (form_unique q (quarter mode) m other four is h)

rounded : RoundEachWay
unfolding wrap_of clip_of
rounded = (
  is_quarter _ Trunc _ refl,
  is_quarter _ Trunc _ refl,
  is_quarter _ Round _ refl,
  is_quarter _ Round _ refl,
  is_quarter _ Sat _ refl,
  is_quarter _ Sat _ refl,
  is_quarter _ RoundSat _ refl,
  is_quarter _ RoundSat _ refl,
  no_quarter _ Round (negsuc 0) _ (is_quarter _ Round _ refl) (λ e. absurd (cc)),
)

overflown : OverflowEachWay
unfolding wrap_of clip_of
overflown = (
  is_quarter _ Trunc _ refl,
  is_quarter _ Trunc _ refl,
  is_quarter _ Round _ refl,
  is_quarter _ Round _ refl,
  is_quarter _ Sat _ refl,
  is_quarter _ Sat _ refl,
  is_quarter _ RoundSat _ refl,
  is_quarter _ RoundSat _ refl,
  is_quarter _ Round _ refl,
  is_quarter _ RoundSat _ refl,
  no_quarter _ Sat (pos 7) _ (is_quarter _ Sat _ refl) (λ e. absurd (cc)),
  no_quarter _ Trunc (negsuc 7) _ (is_quarter _ Trunc _ refl) (λ e. absurd (cc)),
)

pub returns-clause-rounded : goal.returns-clause-rounded
returns-clause-rounded c = rounded

pub returns-clause-overflown : goal.returns-clause-overflown
returns-clause-overflown c = overflown

pub returns-clause-shifted : goal.returns-clause-shifted
unfolding wrap_of clip_of
returns-clause-shifted c = (
  form_is (pos 3) (record { shift = negsuc 1; mode = Trunc; width = 4 }) four,
  form_is (pos 3) (record { shift = negsuc 1; mode = Sat; width = 4 }) four,
  form_is (negsuc 7) (record { shift = pos 0; mode = Round; width = 4 }) four,
)

pub returns-clause-literals : goal.returns-clause-literals
returns-clause-literals c = (
  record {
    nearest = record { below = omega (arith, ints); above = omega (arith, ints) };
    word = record { low = omega (arith, ints); high = omega (arith, ints) };
  },
  record {
    nearest = record { below = omega (arith, ints); above = omega (arith, ints) };
    word = record { low = omega (arith, ints); high = omega (arith, ints) };
  },
  record {
    nearest = record { below = omega (arith, ints); above = omega (arith, ints) };
    word = record { low = omega (arith, ints); high = omega (arith, ints) };
  },
  record {
    nearest = record { below = omega (arith, ints); above = omega (arith, ints) };
    word = record { low = omega (arith, ints); high = omega (arith, ints) };
  },
  λ m is. omega (arith, ints, is.nearest.below, is.nearest.above, is.word.high),
)
