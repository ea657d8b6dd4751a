-- The microcode file, version 1: the bytes that spell an image. Numbers are big-endian, and signed ones in
-- two's complement.
use Rattle.std.specs.Prelude.{ℕ, List, [], ◌∷◌, ◌++◌, length, ℤ}
use Rattle.std.specs.List.{flat_map}
use Rattle.std.specs.Int.{w8, w16, w32, w64, to_be_bytes, cast_unsigned}
use Rattle.fix_word.specs.declared.types.Format.{Format}
use Rattle.micro_image.specs.declared.image.Enable.{Enable}
use Rattle.micro_image.specs.declared.image.Image.{Image}
use Rattle.micro_image.specs.declared.image.Issue.{Issue}
use Rattle.micro_image.specs.declared.image.Take.{Take}
use Rattle.micro_image.specs.declared.image.Word.{Word}
use Rattle.micro_image.specs.Codes.{kind_number, mode_number}
use Rattle.micro_image.specs.Form.{Form, spelled_operation, spelled_hardware}
use Rattle.micro_image.specs.Operations.{opcode}

-- a number in one byte
abbrev pub one_byte : ℕ → List ℕ
one_byte n = n ∷ []

-- a number in 2 bytes
unfoldable pub two_bytes : ℕ → List ℕ
two_bytes n = to_be_bytes w16 n

-- a number in 4 bytes
unfoldable pub four_bytes : ℕ → List ℕ
four_bytes n = to_be_bytes w32 n

-- a raw word, or an argument, in 8 bytes
unfoldable pub eight_bytes : ℤ → List ℕ
eight_bytes z = to_be_bytes w64 (cast_unsigned w64 z)

-- the shift, the mode, the width
unfoldable pub format_bytes : Format → List ℕ
format_bytes fmt = cast_unsigned w8 fmt.shift ∷ mode_number fmt.mode ∷ fmt.width ∷ []

-- the fields in bytes
abbrev pub in_bytes : Form
in_bytes = record {
  period = two_bytes;
  unroll = one_byte;
  channels = one_byte;
  width = one_byte;
  units = one_byte;
  kind = λ kind. one_byte (kind_number kind);
  cycles = one_byte;
  registers = two_bytes;
  cells = four_bytes;
  initial = flat_map eight_bytes;
  ram = one_byte;
  buses = one_byte;
  operation = λ op. one_byte (opcode op);
  format = λ op fmt. format_bytes fmt;
  argument = λ op. eight_bytes;
  named = λ op regs. regs;
}

-- unit, and what it does
unfoldable pub issue_bytes : Issue → List ℕ
issue_bytes issue = issue.unit ∷ spelled_operation in_bytes issue

-- unit, bus
unfoldable pub enable_bytes : Enable → List ℕ
enable_bytes enable = enable.unit ∷ enable.bus ∷ []

-- unit, port, bus, register
unfoldable pub take_bytes : Take → List ℕ
take_bytes take = take.port.unit ∷ take.port.port ∷ take.bus ∷ take.reg ∷ []

-- the issues, the enables, the takes, each list after its length
unfoldable pub word_bytes : Word → List ℕ
word_bytes word =
    length word.issues ∷ [] ++ flat_map issue_bytes word.issues
    ++ two_bytes (length word.enables) ++ flat_map enable_bytes word.enables
    ++ two_bytes (length word.takes) ++ flat_map take_bytes word.takes

-- the fields of an image, in the order of the file
unfoldable pub image_bytes : Image → List ℕ
image_bytes image = spelled_hardware in_bytes image ++ flat_map word_bytes image.words
