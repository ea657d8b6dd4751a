-- The microcode file, version 2: the bits that spell an image, each 0 or 1. A number stands with its most significant
-- bit first. Most numbers that are never 0 stand less 1.
use Rattle.std.specs.Prelude.{ℕ, zero, suc, ◌-◌, ◌/◌, ◌%◌, ◌^◌, ◌==◌, if◌then◌else◌, List, [], ◌∷◌, ◌++◌, length, take}
use Rattle.std.specs.Prelude.{ℤ, pos, ◌+ℤ◌, Bool}
use Rattle.std.specs.Int.{w64, cast_unsigned}
use Rattle.std.specs.List.{flat_map, filter, list_all, range_with_len}
use Rattle.std.specs.Ordering.{int_eq}
use Rattle.fix_word.specs.declared.operation.Op.{Op}
use Rattle.fix_word.specs.declared.types.Format.{Format}
use Rattle.micro_image.specs.declared.image.Enable.{Enable}
use Rattle.micro_image.specs.declared.image.Image.{Image}
use Rattle.micro_image.specs.declared.image.Issue.{Issue}
use Rattle.micro_image.specs.declared.image.Take.{Take}
use Rattle.micro_image.specs.declared.image.UnitDesc.{UnitDesc}
use Rattle.micro_image.specs.declared.image.Word.{Word}
use Rattle.micro_image.specs.Codes.{kind_number, mode_number, place_width, place_of}
use Rattle.micro_image.specs.Fields.{nth, no_unit}
use Rattle.micro_image.specs.Form.{Form, spelled_operation, spelled_hardware}
use Rattle.micro_image.specs.Operations.{Argument, nothing, input_word, output_word, raw_word, offset, operation}
use Rattle.micro_image.specs.Operations.{kind_of, reads, is_formatted}

-- the lowest bits of a number, so many
unfoldable pub bits : ℕ → ℕ → List ℕ
bits zero n = []
bits (suc w) n = (n / 2 ^ w) % 2 ∷ bits w n

-- a number that is never 0
abbrev pub bits_less_1 : ℕ → ℕ → List ℕ
bits_less_1 w n = bits w (n - 1)

-- a number in two's complement
abbrev pub signed_bits : ℕ → ℤ → List ℕ
signed_bits w z = bits w (cast_unsigned w64 z)

-- a raw word
abbrev pub raw_bits : ℤ → List ℕ
raw_bits = signed_bits 40

abbrev pub are_zeros : List ℤ → Bool
are_zeros = list_all (λ z. int_eq z (pos 0))

-- initial words: 0 where all of them are 0, else 1 and each
unfoldable pub preload_bits : List ℤ → List ℕ
preload_bits words = if are_zeros words then 0 ∷ [] else (1 ∷ flat_map raw_bits words)

-- the place of an operation among its kind's
unfoldable pub place_bits : Op → List ℕ
place_bits op = bits (place_width (kind_of op)) (place_of op)

-- the shift plus 40, the mode, the width less 1
unfoldable pub format_bits : Format → List ℕ
format_bits fmt = signed_bits 7 (fmt.shift +ℤ pos 40) ++ bits 2 (mode_number fmt.mode) ++ bits_less_1 6 fmt.width

abbrev pub argument_bits : Argument → ℤ → List ℕ
argument_bits nothing z = []
argument_bits input_word z = signed_bits 4 z
argument_bits output_word z = signed_bits 4 z
argument_bits raw_word z = raw_bits z
argument_bits offset z = signed_bits 16 z

-- the fields in bits
abbrev pub in_bits : Form
in_bits = record {
  period = bits_less_1 12;
  unroll = λ unroll. bits 2 (unroll / 2);
  channels = bits_less_1 4;
  width = bits 6;
  units = bits_less_1 5;
  kind = λ kind. bits 3 (kind_number kind);
  cycles = bits_less_1 3;
  registers = bits_less_1 8;
  cells = bits_less_1 16;
  initial = preload_bits;
  ram = bits 5;
  buses = bits_less_1 5;
  operation = place_bits;
  format = λ op fmt. if is_formatted op then format_bits fmt else [];
  argument = λ op. argument_bits (operation op).argument;
  named = λ op regs. flat_map (bits 8) (take (reads op) regs);
}

-- a unit's issue: 0 where there is none, else 1 and what it does
unfoldable pub issue_bits : List Issue → List ℕ
issue_bits [] = 0 ∷ []
issue_bits (issue ∷ _) = 1 ∷ spelled_operation in_bits issue

-- whether a unit drives a bus
abbrev pub enable_bit : List Enable → ℕ
enable_bit [] = 0
enable_bit (enable ∷ _) = 1

-- which buses a unit drives, a bit a bus
unfoldable pub enable_bits : (buses : ℕ) → List Enable → List ℕ
enable_bits buses enables =
    flat_map (λ bus. enable_bit (filter (λ enable. enable.bus == bus) enables) ∷ []) (range_with_len 0 buses)

-- 1, the bus, the register
unfoldable pub take_bits : Take → List ℕ
take_bits take = 1 ∷ bits 5 take.bus ++ bits 8 take.reg

-- the takes into a register file, and 0 behind them
unfoldable pub takes_bits : List Take → List ℕ
takes_bits takes = flat_map take_bits takes ++ 0 ∷ []

-- the takes into a unit's register files, file by file
unfoldable pub ports_bits : (ports : ℕ) → List Take → List ℕ
ports_bits ports takes =
    flat_map (λ port. takes_bits (filter (λ take. take.port.port == port) takes)) (range_with_len 0 ports)

-- unit by unit the issue, then unit by unit the buses that it drives, then unit by unit the takes into its files
unfoldable pub word_bits : List UnitDesc → (buses : ℕ) → Word → List ℕ
word_bits units buses word =
    flat_map (λ u. issue_bits (filter (λ issue. issue.unit == u) word.issues)) (range_with_len 0 (length units))
    ++ flat_map (λ u. enable_bits buses (filter (λ enable. enable.unit == u) word.enables))
    (range_with_len 0 (length units))
    ++ flat_map (λ u.
    ports_bits (length (nth units u no_unit).files) (filter (λ take. take.port.unit == u) word.takes))
    (range_with_len 0 (length units))

-- the fields of an image, in the order of the file
unfoldable pub image_bits : Image → List ℕ
image_bits image = spelled_hardware in_bits image ++ flat_map (word_bits image.units image.buses) image.words
