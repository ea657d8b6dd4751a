-- The fields of a file of version 2, in packed bits, the most significant of a number first.
use Rattle.std.specs.Prelude.{ℕ, ◌+◌, ◌-◌, ◌^◌, ◌==◌, List, [], ◌∷◌, ◌++◌, length, Result, Ok, Err, nat_lt}
use Rattle.std.specs.Prelude.{nat_le, not, if◌then◌else◌, ℤ, pos, ◌-ℤ◌, replicate}
use Rattle.fix_word.specs.declared.operation.Op.{Op}
use Rattle.fix_word.specs.declared.types.Format.{Format}
use Rattle.fix_word.specs.declared.types.Mode.TheVariants.{Trunc}
use Rattle.operations.specs.declared.units.Kind.{Kind}
use Rattle.micro_image.specs.Bits.{are_zeros}
use Rattle.micro_image.specs.Codes.{place_width, operations_of}
use Rattle.micro_image.specs.Fields.{nth}
use Rattle.micro_image.specs.Operations.{Argument, nothing, input_word, output_word, raw_word, offset, operation}
use Rattle.micro_image.specs.Operations.{is_formatted}
use Rattle.micro_bits.specs.Numbers as numbers
use Rattle.micro_bits.specs.declared.fault.BitFault.{BitFault}
use Rattle.micro_file.specs.Private.Tables.{kinds, modes}
use Rattle.micro_file.specs.declared.misread.Misread.{Misread}
use Rattle.micro_file.specs.declared.misread.Misread.TheVariants.{Short}
use Rattle.micro_file.specs.Private.Fields.{Reading, ◌>>=◌, kept, element, many_at}
use Rattle.micro_file.specs.Private.FormAt.{FormAt}

-- what was read, if there were enough bits
abbrev pub unless_short : {A : Type 0} → Result A BitFault → Result A Misread
unless_short (Ok x) = Ok x
unless_short (Err fault) = Err Short

-- a number of so many bits
unfoldable pub number_at : ℕ → List ℕ → Reading ℕ
number_at w bits = unless_short (numbers.number_at w bits)

-- a number that is never 0, and stands less 1
abbrev pub number_less_1_at : ℕ → List ℕ → Reading ℕ
number_less_1_at w bits = number_at w bits >>= λ n. Ok (n.0 + 1, n.1)

-- a number up to the limit
abbrev pub number_upto : ℕ → ℕ → List ℕ → Reading ℕ
number_upto w limit bits = number_at w bits >>= λ n. kept bits (nat_le n.0 limit) n

-- a number below the limit
abbrev pub number_below : ℕ → ℕ → List ℕ → Reading ℕ
number_below w limit bits = number_at w bits >>= λ n. kept bits (nat_lt n.0 limit) n

-- a number that stands less 1, up to the limit
abbrev pub number_less_1_upto : ℕ → ℕ → List ℕ → Reading ℕ
number_less_1_upto w limit bits = number_less_1_at w bits >>= λ n. kept bits (nat_le n.0 limit) n

-- the element of a table whose place so many bits are
abbrev pub entry_at : {A : Type 0} → ℕ → List A → List ℕ → Reading A
entry_at w table bits = number_at w bits >>= λ n. element table bits n

-- the number that 40 bits are in two's complement
abbrev pub as_raw_word : ℕ → ℤ
as_raw_word n = if nat_lt n (2 ^ 39) then pos n else pos n -ℤ pos (2 ^ 40)

-- a raw word
unfoldable pub raw_word_at : List ℕ → Reading ℤ
raw_word_at bits = number_at 40 bits >>= λ n. Ok (as_raw_word n.0, n.1)

-- so many raw words, of which one at least is not 0, behind the flag that is in front of these bits
abbrev pub some_words_at : ℕ → (flag : List ℕ) → List ℕ → Reading (List ℤ)
some_words_at count flag bits =
    many_at (λ _. raw_word_at) [] count bits >>= λ words. kept flag (not (are_zeros words.0)) words

-- initial words, so many: a flag; where it is 1, each
unfoldable pub preload_at : ℕ → List ℕ → Reading (List ℤ)
preload_at count bits =
    number_at 1 bits >>= λ flag.
    if flag.0 == 0 then Ok (replicate count (pos 0), flag.1) else some_words_at count bits flag.1

-- an operation of the kind
abbrev pub operation_at : Kind → List ℕ → Reading Op
operation_at kind = entry_at (place_width kind) (operations_of kind)

-- the shift plus 40, the mode, the width less 1
unfoldable pub some_format_at : List ℕ → Reading Format
some_format_at bits = do
  shift ← number_upto 7 120 bits
  mode ← entry_at 2 modes shift.1
  width ← number_less_1_upto 6 40 mode.1
  Ok (record { shift = pos shift.0 -ℤ pos 40; mode = mode.0; width = width.0 }, width.1)

-- no format takes no bits
abbrev pub no_format : Format
no_format = record { shift = pos 0; mode = Trunc; width = 0 }

-- the format of an operation that has one
abbrev pub format_at : Op → List ℕ → Reading Format
format_at op bits = if is_formatted op then some_format_at bits else Ok (no_format, bits)

-- a number as an argument
abbrev pub as_argument : Reading ℕ → Reading ℤ
as_argument reading = reading >>= λ n. Ok (pos n.0, n.1)

-- the argument of such a kind, where there are so many input and output words
unfoldable pub argument_at : Argument → (inputs outs : ℕ) → List ℕ → Reading ℤ
argument_at nothing inputs outs bits = Ok (pos 0, bits)
argument_at input_word inputs outs bits = as_argument (number_below 4 inputs bits)
argument_at output_word inputs outs bits = as_argument (number_below 4 outs bits)
argument_at raw_word inputs outs bits = raw_word_at bits
argument_at offset inputs outs bits = as_argument (number_at 16 bits)

-- the register of the port that comes next
abbrev pub register_at : List (List ℤ) → List ℕ → List ℕ → Reading ℕ
register_at files front = number_below 8 (length (nth files (length front) []))

-- the registers of the ports that are read, and 0 for each of the others
unfoldable pub registers_at : List (List ℤ) → (read : ℕ) → List ℕ → Reading (List ℕ)
registers_at files read bits =
    many_at (register_at files) [] read bits >>= λ regs. Ok (regs.0 ++ replicate (length files - read) 0, regs.1)

-- the fields in bits
abbrev pub at_bits : FormAt
at_bits = record {
  period = number_less_1_at 12;
  unroll = entry_at 2 (1 ∷ 2 ∷ 4 ∷ []);
  channels = number_less_1_at 4;
  width = number_upto 6 40;
  units = number_less_1_at 5;
  kind = entry_at 3 kinds;
  latency = number_less_1_at 3;
  gap = number_less_1_upto 3;
  registers = number_less_1_at 8;
  cells = number_less_1_at 16;
  initial = preload_at;
  ram = number_at 5;
  ram_length = 5;
  buses = number_less_1_at 5;
  operation = operation_at;
  format = format_at;
  argument = λ op. argument_at (operation op).argument;
  named = registers_at;
}
