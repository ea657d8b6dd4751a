-- The fields of a file of version 1, in bytes.
use Rattle.std.specs.Prelude.{ℕ, List, [], ◌∷◌, length, take, drop, Ok, Err, Bool, ◌==◌, nat_lt, nat_le, ◌&&◌, ◌||◌}
use Rattle.std.specs.Prelude.{if◌then◌else◌, ℤ, pos, negsuc, int_le}
use Rattle.std.specs.Int.{Width, w8, w16, w32, w64, byte_len, from_be_bytes, cast_signed, is_in_range}
use Rattle.fix_word.specs.declared.types.Format.{Format}
use Rattle.fix_word.specs.declared.types.Mode.TheVariants.{Trunc}
use Rattle.fix_word.specs.declared.operation.Op.{Op}
use Rattle.operations.specs.declared.units.Kind.{Kind}
use Rattle.micro_image.specs.Codes.{kind_number}
use Rattle.micro_image.specs.Fields.{nth}
use Rattle.micro_image.specs.Operations.{kind_of, is_formatted}
use Rattle.micro_file.specs.Private.Arguments.{is_argument}
use Rattle.micro_file.specs.Private.Tables.{kinds, operations, modes}
use Rattle.micro_file.specs.declared.misread.Misread.{Misread}
use Rattle.micro_file.specs.declared.misread.Misread.TheVariants.{Short}
use Rattle.micro_file.specs.Private.Fields.{Reading, ◌>>=◌, kept, element, is_raw_word, many_at}
use Rattle.micro_file.specs.Private.FormAt.{FormAt}

-- one byte
abbrev pub byte_at : List ℕ → Reading ℕ
byte_at [] = Err Short
byte_at (b ∷ rest) = Ok (b, rest)

-- this one byte; another is misread so
abbrev pub only_byte : Misread → ℕ → List ℕ → Reading ℕ
only_byte misread only bytes = byte_at bytes >>= λ b. if b.0 == only then Ok b else Err misread

-- a byte from low to high
abbrev pub byte_within : ℕ → ℕ → List ℕ → Reading ℕ
byte_within low high bytes = byte_at bytes >>= λ b. kept bytes (is_in_range low high b.0) b

-- a byte below the limit
abbrev pub byte_below : ℕ → List ℕ → Reading ℕ
byte_below limit bytes = byte_at bytes >>= λ b. kept bytes (nat_lt b.0 limit) b

-- a byte up to the limit
abbrev pub byte_upto : ℕ → List ℕ → Reading ℕ
byte_upto limit bytes = byte_at bytes >>= λ b. kept bytes (nat_le b.0 limit) b

-- a number in as many bytes as the width has
abbrev pub number_at : Width → List ℕ → Reading ℕ
number_at w bytes =
    if nat_lt (length bytes) (byte_len w)
    then Err Short
    else Ok (from_be_bytes w (take (byte_len w) bytes), drop (byte_len w) bytes)

-- a number from low to high
abbrev pub number_within : Width → ℕ → ℕ → List ℕ → Reading ℕ
number_within w low high bytes = number_at w bytes >>= λ n. kept bytes (is_in_range low high n.0) n

-- a number with a sign
abbrev pub signed_at : List ℕ → Reading ℤ
signed_at bytes = number_at w64 bytes >>= λ n. Ok (cast_signed w64 n.0, n.1)

-- a raw word
unfoldable pub raw_word_at : List ℕ → Reading ℤ
raw_word_at bytes = signed_at bytes >>= λ z. kept bytes (is_raw_word z.0) z

-- the element of a table whose place the byte is
abbrev pub entry_at : {A : Type 0} → List A → List ℕ → Reading A
entry_at table bytes = byte_at bytes >>= λ b. element table bytes b

-- 1, 2 or 4
abbrev pub is_unroll : ℕ → Bool
is_unroll n = n == 1 || n == 2 || n == 4

-- the unroll factor: after how many samples the words repeat
abbrev pub unroll_at : List ℕ → Reading ℕ
unroll_at bytes = byte_at bytes >>= λ n. kept bytes (is_unroll n.0) n

-- this many raw words
abbrev pub raw_words_at : ℕ → List ℕ → Reading (List ℤ)
raw_words_at = many_at (λ _. raw_word_at) []

-- whether two kinds are one
abbrev pub same_kind : Kind → Kind → Bool
same_kind a b = kind_number a == kind_number b

-- an operation of the kind
abbrev pub operation_at : Kind → List ℕ → Reading Op
operation_at kind bytes = entry_at operations bytes >>= λ op. kept bytes (same_kind (kind_of op.0) kind) op

-- shift, mode and width
unfoldable pub some_format_at : List ℕ → Reading Format
some_format_at bytes = do
  shift ← byte_at bytes
  shift ← kept bytes (int_le (negsuc 39) (cast_signed w8 shift.0) && int_le (cast_signed w8 shift.0) (pos 80)) shift
  mode ← entry_at modes shift.1
  width ← byte_within 1 40 mode.1
  Ok (record { shift = cast_signed w8 shift.0; mode = mode.0; width = width.0 }, width.1)

-- three zeros
unfoldable pub no_format_at : List ℕ → Reading Format
no_format_at bytes = do
  shift ← byte_within 0 0 bytes
  mode ← byte_within 0 0 shift.1
  width ← byte_within 0 0 mode.1
  Ok (record { shift = pos 0; mode = Trunc; width = 0 }, width.1)

-- the format of an operation that has one, and zeros for the others
abbrev pub format_at : Op → List ℕ → Reading Format
format_at op bytes = if is_formatted op then some_format_at bytes else no_format_at bytes

-- the argument of an operation
unfoldable pub argument_at : Op → ℕ → ℕ → List ℕ → Reading ℤ
argument_at op inputs outs bytes = signed_at bytes >>= λ z. kept bytes (is_argument op inputs outs z.0) z

-- how many registers a port has: those of its file, or only the first where the port is not read
abbrev pub register_count : List (List ℤ) → ℕ → ℕ → ℕ
register_count files read port = if nat_lt port read then length (nth files port []) else 1

-- the register of the port that comes next
abbrev pub register_at : List (List ℤ) → ℕ → List ℕ → List ℕ → Reading ℕ
register_at files read front bytes = byte_below (register_count files read (length front)) bytes

-- the registers of all ports
abbrev pub registers_at : List (List ℤ) → ℕ → List ℕ → Reading (List ℕ)
registers_at files read = many_at (register_at files read) [] (length files)

-- the fields in bytes
abbrev pub at_bytes : FormAt
at_bytes = record {
  period = number_within w16 1 4096;
  unroll = unroll_at;
  channels = byte_within 1 16;
  width = byte_within 0 40;
  units = byte_within 1 32;
  kind = entry_at kinds;
  latency = byte_within 1 8;
  gap = byte_within 1;
  registers = number_within w16 1 256;
  cells = number_within w32 1 65536;
  initial = raw_words_at;
  ram = byte_at;
  ram_length = 1;
  buses = byte_within 1 32;
  operation = operation_at;
  format = format_at;
  argument = argument_at;
  named = registers_at;
}
