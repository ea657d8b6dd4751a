-- The packed file of y = x + 1 has these 57 bytes.
use Rattle.std.proofs.Common.{◌≡◌, ◌^◌, ◌<◌, ltb, true, refl, arith, ℕ, List, [], ◌∷◌, ◌++◌, length, replicate, take}
use Rattle.std.proofs.Common.{drop}
use Rattle.std.specs.Prelude.{slice_index_or}
use Rattle.std.proofs.lemmas.Bool.Decides.{nat_tests}
use Rattle.std.proofs.lemmas.List.Sums.{AllPass-from_list_all}
use Rattle.micro_image.proofs.Increment.{increment}
use Rattle.micro_image.proofs.IncrementFile.{two_drivers}
use Rattle.micro_image.proofs.IncrementValid.{increment-valid}
use Rattle.micro_image.specs.Bits.{bits, preload_bits, place_bits, format_bits, issue_bits, enable_bits, take_bits}
use Rattle.micro_image.specs.Bits.{takes_bits, ports_bits, word_bits, image_bits}
use Rattle.micro_image.specs.Form.{spelled_file, spelled_memory, spelled_unit, spelled_operation, spelled_hardware}
use Rattle.micro_image.specs.Spells.{AreBytes, bits_of, begun, SpellsIn}
use Rattle.micro_image.specs.declared.version.Version.TheVariants.{Two}

-- what is behind the version: the hardware, the four words that do something, the twelve empty ones
abbrev pub packed_rest : List ℕ
packed_rest =
    (0x00 ∷ 0xf0 ∷ 0x08 ∷ 0x01 ∷ 0x80 ∷ 0x10 ∷ 0x0c ∷ 0x00 ∷ 0x70 ∷ 0x38 ∷ 0x80 ∷ 0x02 ∷ [])
    ++ (0x04 ∷ 0x04 ∷ 0x40 ∷ 0x00 ∷ [])
    ++ (0x10 ∷ 0x00 ∷ 0x00 ∷ 0x00 ∷ 0x00 ∷ 0x11 ∷ 0x10 ∷ 0x00 ∷ [])
    ++ (0x04 ∷ 0x14 ∷ 0x03 ∷ 0x80 ∷ 0x00 ∷ 0x08 ∷ 0x80 ∷ 0x00 ∷ [])
    ++ (0x20 ∷ replicate 19 0)

abbrev pub packed_bytes : List ℕ
packed_bytes = begun 2 packed_rest

pub packed-size : length packed_bytes ≡ 57
packed-size = refl

small : (b : ℕ) → ltb b 256 ≡ true → b < 2 ^ 8
small b e = grind (arith, nat_tests)

-- each is a byte
pub packed-are_bytes : AreBytes packed_rest
packed-are_bytes k d lt =
    small (slice_index_or packed_rest k d)
    (AllPass-from_list_all (λ b. ltb b 256) packed_rest refl k d lt)

-- its bits are those of the image, and six zeros
pub increment-packed : bits_of packed_rest ≡ image_bits increment ++ replicate 6 0
unfolding image_bits bits preload_bits place_bits format_bits issue_bits enable_bits take_bits takes_bits ports_bits
    word_bits spelled_file spelled_memory spelled_unit spelled_operation spelled_hardware
increment-packed = refl

-- with two units that drive the bus in cycle 2 byte 34 is another
pub two_drivers-packed : bits_of (take 29 packed_rest ++ 0x18 ∷ drop 30 packed_rest)
    ≡ image_bits two_drivers ++ replicate 6 0
unfolding image_bits bits preload_bits place_bits format_bits issue_bits enable_bits take_bits takes_bits ports_bits
    word_bits spelled_file spelled_memory spelled_unit spelled_operation spelled_hardware
two_drivers-packed = refl

-- the 57 bytes spell it
pub increment-packed-spelled : SpellsIn Two packed_bytes increment
increment-packed-spelled = record {
  valid = increment-valid;
  spelled = record {
    rest = packed_rest;
    begins = refl;
    holds = record {
      are_bytes = packed-are_bytes;
      zeros = 6;
      fewer = omega arith;
      packed = increment-packed;
    };
  };
}
