-- What a writer of bits puts.
use Rattle.std.proofs.Common.{arith, ◌≡◌, ◌∙◌, refl, sym, ap, ℕ, ◌+◌, ◌*◌, ◌%◌, ◌^◌, List, [], ◌∷◌, ◌++◌}
use Rattle.std.proofs.Common.{append_assoc, Bool, true, false}
use Rattle.std.proofs.lemmas.List.{flat_map_more, replicate-append-replicate}
use Rattle.std.proofs.Common.{ap₂, replicate, ◌<◌, if◌then◌else◌}
use Rattle.std.specs.List.{flat_map, range_with_len}
use Rattle.lists.proofs.Ranges.{range_more}
use Rattle.std.specs.Int.{from_bool}
use Rattle.micro_image.specs.declared.image.Take.{Take}
use Rattle.micro_image.specs.Bits.{bits, format_bits, take_bits}
use Rattle.micro_image.specs.Codes.{mode_number}
use Rattle.fix_word.specs.declared.types.Format.{Format}
use Rattle.fix_word.specs.declared.types.Mode.{Mode}
use Rattle.fix_word.specs.declared.types.Mode.TheVariants.{Trunc, Round, Sat, RoundSat}
use Rattle.std.specs.Prelude.{◌+ℤ◌, pos, ◌-◌}
use Rattle.std.specs.Int.{w64, cast_unsigned}
use Rattle.micro_bits.proofs.Bits.{bits_behind, bits_mod}
use Rattle.micro_bits.proofs.BitNumbers.{bits_none}

pub flag_bits : (flag : Bool) → bits 1 (from_bool flag) ≡ (if flag then 1 else 0) ∷ []
unfolding bits
flag_bits true = refl
flag_bits false = refl

-- what numbers give, and the next one
pub next_put : {X : Type 0} (f : ℕ → List X) (front : List X) (n : ℕ)
    → (front ++ flat_map f (range_with_len 0 n)) ++ f n ≡ front ++ flat_map f (range_with_len 0 (n + 1))
next_put f front n =
    flat_map_more f front (range_with_len 0 n) n ∙ ap (λ numbers. front ++ flat_map f numbers)
    (sym (range_more 0 n ∙ ap (λ k. range_with_len 0 n ++ k ∷ []) (omega arith)))

-- ---- zeros, and more of them

pub more_zeros : (front out : List ℕ) (done n : ℕ)
    → out ≡ front ++ replicate done 0
    → out ++ bits n 0 ≡ front ++ replicate (done + n) 0
more_zeros front out done n is =
    ap (λ (t : List ℕ). t ++ bits n 0) is ∙ append_assoc front (replicate done 0) (bits n 0)
    ∙ ap (λ (t : List ℕ). front ++ t)
    (ap (λ (t : List ℕ). replicate done 0 ++ t) (bits_none n) ∙ replicate-append-replicate done n 0)

-- ---- a take as one number

pub take_number : (own : Take) (bus reg : ℕ)
    → bus ≡ own.bus % 32
    → reg ≡ own.reg
    → reg < 256
    → bits 14 ((32 + bus) * 256 + reg) ≡ take_bits own
unfolding take_bits
take_number own bus reg bus_is reg_is small =
    let less : bus < 2 ^ 5 = omega (arith, bus_is) in
    bits_behind 6 8 (32 + bus) reg small
    ∙ ap (λ (front : List ℕ). front ++ bits 8 reg)
    (bits_behind 1 5 1 bus less
    ∙ ap (λ (front : List ℕ). front ++ bits 5 bus) (flag_bits true)
    ∙ ap (λ (rest : List ℕ). 1 ∷ rest) (ap (bits 5) bus_is ∙ bits_mod 5 5 own.bus (omega arith)))
    ∙ ap (λ (r : ℕ). 1 ∷ bits 5 own.bus ++ bits 8 r) reg_is

-- ---- a format as one number

small_mode : (mode : Mode) → mode_number mode < 2 ^ 2
small_mode Trunc = omega arith
small_mode Round = omega arith
small_mode Sat = omega arith
small_mode RoundSat = omega arith

pub format_number : (fmt : Format) (shift mode width : ℕ)
    → shift ≡ cast_unsigned w64 (fmt.shift +ℤ pos 40)
    → mode ≡ mode_number fmt.mode
    → width ≡ fmt.width - 1
    → bits 15 ((shift % 128 * 4 + mode) * 64 + width % 64) ≡ format_bits fmt
unfolding format_bits
format_number fmt shift mode width shift_is mode_is width_is =
    let small : mode < 2 ^ 2 = rw mode_is (small_mode fmt.mode) in
    bits_behind 9 6 (shift % 128 * 4 + mode) (width % 64) (omega arith)
    ∙ ap₂ (λ (xs ys : List ℕ). xs ++ ys)
    (bits_behind 7 2 (shift % 128) mode small
    ∙ ap₂ (λ (xs ys : List ℕ). xs ++ ys) (bits_mod 7 7 shift (omega arith) ∙ ap (bits 7) shift_is)
    (ap (bits 2) mode_is))
    (bits_mod 6 6 width (omega arith) ∙ ap (bits 6) width_is)
