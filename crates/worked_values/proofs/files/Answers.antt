-- The bytes are computed, field by field.
use Rattle.std.proofs.Common.{◌≡◌, ◌<◌, ◌^◌, ltb, true, refl, sym, ap, ◌∙◌, arith, ℕ, List, length}
use Rattle.std.specs.Prelude.{slice_index_or}
use Rattle.std.proofs.lemmas.Bool.Decides.{nat_tests}
use Rattle.std.proofs.lemmas.List.Sums.{AllPass-from_list_all}
use Rattle.micro_image.specs.Bits.{bits, preload_bits, place_bits, format_bits, issue_bits, enable_bits, take_bits}
use Rattle.micro_image.specs.Bits.{takes_bits, ports_bits, word_bits, image_bits}
use Rattle.micro_image.specs.Bytes.{two_bytes, four_bytes, eight_bytes, format_bytes, issue_bytes, enable_bytes}
use Rattle.micro_image.specs.Bytes.{take_bytes, word_bytes, image_bytes}
use Rattle.micro_image.specs.Form.{spelled_file, spelled_memory, spelled_unit, spelled_operation, spelled_hardware}
use Rattle.micro_image.specs.Spells.{AreBytes, SpellsIn}
use Rattle.micro_image.specs.declared.version.Version.TheVariants.{One, Two}
use Rattle.micro_file.proofs.Unique.{Spells-unique, in_either}
use Rattle.worked_values.specs.Machine.{echo}
use Rattle.worked_values.specs.Files.{file_in_bytes, file_in_bits, packed}
use Rattle.worked_values.proofs.Valid.{echo_is_valid}
use Rattle.worked_values.proofs.files.Goals as goal

in_bytes : SpellsIn One file_in_bytes echo
unfolding image_bytes two_bytes four_bytes eight_bytes spelled_file spelled_memory spelled_unit spelled_operation
    spelled_hardware format_bytes issue_bytes enable_bytes take_bytes word_bytes
in_bytes = record { valid = echo_is_valid; spelled = refl }

small : (b : ℕ) → ltb b 256 ≡ true → b < 2 ^ 8
small b e = grind (arith, nat_tests)

are_bytes : AreBytes packed
are_bytes k d lt =
    small (slice_index_or packed k d) (AllPass-from_list_all (λ b. ltb b 256) packed refl k d lt)

pub returns-clause-in_bytes : goal.returns-clause-in_bytes
returns-clause-in_bytes _ = in_bytes

in_bits : SpellsIn Two file_in_bits echo
unfolding image_bits bits preload_bits place_bits format_bits issue_bits enable_bits take_bits takes_bits ports_bits
    word_bits spelled_file spelled_memory spelled_unit spelled_operation spelled_hardware
in_bits = record {
  valid = echo_is_valid;
  spelled =
      record {
        rest = packed;
        begins = refl;
        holds = record { are_bytes = are_bytes; zeros = 6; fewer = omega arith; packed = refl };
      };
}

pub returns-clause-in_bits : goal.returns-clause-in_bits
returns-clause-in_bits _ = in_bits

-- the byte of the version
abbrev version_of : List ℕ → ℕ
version_of bytes = slice_index_or bytes 4 0

one_is_not_two : ◌≡◌ {A = ℕ} 1 2 → ⊥
one_is_not_two e = omega (arith, e)

pub returns-clause-others : goal.returns-clause-others
returns-clause-others _ = (
  λ h. one_is_not_two (ap version_of h.spelled.begins),
  λ h. one_is_not_two (sym (ap version_of h.spelled)),
  λ h. longer (ap length (h.spelled ∙ sym in_bytes.spelled)),
)
  where
    longer : ◌≡◌ {A = ℕ} 288 287 → ⊥
    longer e = omega (arith, e)

pub returns-clause-unique : goal.returns-clause-unique
returns-clause-unique _ = λ other h. Spells-unique file_in_bits other echo h (in_either in_bits)
