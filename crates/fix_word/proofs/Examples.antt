-- The functions compute on numbers that are given.
use Rattle.std.proofs.Common.{◌≡◌, refl, pos, negsuc, true, false, ◌^◌, ◌-◌}
use Rattle.fix_word.specs.Values.{wrap_of, clip_of, form_of, conv_of, nearest_of, apply_of}
use Rattle.fix_word.specs.declared.types.Mode.TheVariants.{Trunc, Round, Sat, RoundSat}
use Rattle.fix_word.specs.declared.operation.Op.TheVariants.{And, Mul, Sel, Load}

-- 128 in 8 bits
wrap_of-128 : wrap_of (pos 128) 8 ≡ negsuc 127
unfolding wrap_of
wrap_of-128 = refl

-- half of the last place, above and below 0
form_of-half : form_of (pos 8) (record { shift = pos 4; mode = Round; width = 8 }) ≡ pos 1
unfolding wrap_of
form_of-half = refl

form_of-minus_half : form_of (negsuc 7) (record { shift = pos 4; mode = Round; width = 8 }) ≡ pos 0
unfolding wrap_of
form_of-minus_half = refl

form_of-cut : form_of (negsuc 7) (record { shift = pos 4; mode = Trunc; width = 8 }) ≡ negsuc 0
unfolding wrap_of
form_of-cut = refl

-- 5 times 2 ^ 40 in 40 bits
form_of-up : form_of (pos 5) (record { shift = negsuc 39; mode = Trunc; width = 40 }) ≡ pos 0
unfolding wrap_of
form_of-up = refl

form_of-up_clipped : form_of (pos 5) (record { shift = negsuc 39; mode = Sat; width = 40 }) ≡ pos (2 ^ 39 - 1)
unfolding clip_of
form_of-up_clipped = refl

-- 127.5 and -128.5 in 8 bits: rounded first, then brought to the width
form_of-rounded_wrapped : form_of (pos 255) (record { shift = pos 1; mode = Round; width = 8 }) ≡ negsuc 127
unfolding wrap_of
form_of-rounded_wrapped = refl

form_of-rounded_clipped : form_of (pos 255) (record { shift = pos 1; mode = RoundSat; width = 8 }) ≡ pos 127
unfolding clip_of
form_of-rounded_clipped = refl

form_of-cut_clipped : form_of (negsuc 256) (record { shift = pos 1; mode = Sat; width = 8 }) ≡ negsuc 127
unfolding clip_of
form_of-cut_clipped = refl

-- the raw word -8 with 8 fraction bits, in 8 bits with 4 of them
conv_of-cut : conv_of (negsuc 7) (pos 8) (record { w = 8; f = 4 }) Trunc ≡ negsuc 0
unfolding wrap_of
conv_of-cut = refl

conv_of-minus_half : conv_of (negsuc 7) (pos 8) (record { w = 8; f = 4 }) Round ≡ pos 0
unfolding wrap_of
conv_of-minus_half = refl

-- 0.5 and -0.5 with no fraction bits, and -1.0 with 15
nearest_of-half : nearest_of false 5 1 0 ≡ pos 1
nearest_of-half = refl

nearest_of-minus_half : nearest_of true 5 1 0 ≡ pos 0
nearest_of-minus_half = refl

nearest_of-lowest : nearest_of true 10 1 15 ≡ negsuc 32767
nearest_of-lowest = refl

-- 127 times 127 with 4 places
apply_of-product : apply_of Mul (record { shift = pos 4; mode = Trunc; width = 8 }) (pos 127) (pos 127) (pos 0)
    ≡ negsuc 15
unfolding wrap_of
apply_of-product = refl

apply_of-both : apply_of And (record { shift = pos 0; mode = Trunc; width = 0 }) (pos 1) (negsuc 1) (pos 0) ≡ pos 1
apply_of-both = refl

apply_of-choice : apply_of Sel (record { shift = pos 0; mode = Trunc; width = 0 }) (negsuc 0) (pos 5) (pos 6) ≡ pos 5
apply_of-choice = refl

apply_of-no_result : apply_of Load (record { shift = pos 0; mode = Trunc; width = 0 }) (pos 3) (pos 4) (pos 5) ≡ pos 0
apply_of-no_result = refl
