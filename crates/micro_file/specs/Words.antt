-- The fields of a file of version 1, in bytes, and its microwords: what is issued, which buses are driven, which
-- registers are written.
use Rattle.std.specs.Prelude.{◌≡◌, ℕ, ◌-◌, ◌<◌, ◌≤◌, ◌≤ℤ◌, List, [], length, ℤ, pos, negsuc, Some, slice_get}
use Rattle.std.specs.Prelude.{nat_lt}
use Rattle.std.specs.Prelude.{if◌then◌else◌}
use Rattle.std.specs.Int.{w8, cast_signed}
use Rattle.fix_word.specs.Words.{IsMachineWord}
use Rattle.fix_word.specs.declared.types.Format.{Format}
use Rattle.fix_word.specs.declared.types.Mode.TheVariants.{Trunc}
use Rattle.micro_image.specs.declared.image.Enable.{Enable}
use Rattle.micro_image.specs.declared.image.Image.{Image}
use Rattle.micro_image.specs.declared.image.Issue.{Issue}
use Rattle.micro_image.specs.declared.image.Take.{Take}
use Rattle.micro_image.specs.declared.image.Word.{Word}
use Rattle.micro_image.specs.Bytes.{one_byte, two_bytes, eight_bytes, in_bytes}
use Rattle.micro_image.specs.Codes.{mode_number}
use Rattle.micro_image.specs.Fields.{nth, no_unit}
use Rattle.micro_image.specs.Operations.{opcode, is_formatted}
use Rattle.micro_image.specs.Valid.{IsWithin, EnableBefore, TakeBefore}
use Rattle.micro_file.specs.Layout.{Layout, ◌>>=◌, field, given, placed, judged, choice, many}
use Rattle.micro_file.specs.Hardware.{Any, Own, issue_on}

abbrev pub byte : (ℕ → Type 0) → Layout ℕ
byte = field one_byte

-- it comes after the last of those in front, if there is one
abbrev pub IsAfter : {A B : Type 0} → (A → B → Type 0) → List A → B → Type 0
IsAfter {A} Before front x = (last : A) → slice_get front (length front - 1) ≡ Some last → Before last x

abbrev pub IsShift : ℤ → Type 0
IsShift shift = (negsuc 39 ≤ℤ shift) × (shift ≤ℤ pos 80)

-- shift, mode and width
unfoldable pub some_format : Layout Format
some_format = do
  shift ← byte (λ b. IsShift (cast_signed w8 b))
  mode ← field (λ mode. one_byte (mode_number mode)) Any
  width ← byte (IsWithin 1 40)
  given (record { shift = cast_signed w8 shift; mode = mode; width = width })

-- three zeros
unfoldable pub no_format : Layout Format
no_format = do
  shift ← byte (IsWithin 0 0)
  mode ← byte (IsWithin 0 0)
  width ← byte (IsWithin 0 0)
  given (record { shift = pos 0; mode = Trunc; width = 0 })

-- how many registers a port may name, of which the operation reads so many
abbrev pub choices : List (List ℤ) → (reads port : ℕ) → ℕ
choices files reads port = if nat_lt port reads then length (nth files port []) else 1

abbrev pub own_bytes : Own
own_bytes = record {
  initial = many (λ _. field eight_bytes IsMachineWord) [];
  Ram = Any;
  operation = λ kind op. one_byte (opcode op);
  format = λ op. choice (is_formatted op) some_format no_format;
  named = λ files reads. many (λ front. byte (λ reg. reg < choices files reads (length front))) [] (length files);
}

-- the register files of a unit
abbrev pub files_of : Image → ℕ → List (List ℤ)
files_of image number = (nth image.units number no_unit).files

-- an issue after those in front
unfoldable pub issue : Image → List Issue → Layout Issue
issue image front = do
  number ← byte (λ n. (n < length image.units) × IsAfter (λ last m. last.unit < m) front n)
  issue_on in_bytes own_bytes image number (nth image.units number no_unit)

-- an enable after those in front, whose first byte is at the place
unfoldable pub enable : Image → List Enable → (place : List ℕ) → Layout Enable
enable image front place = do
  unit ← byte (λ n. n < length image.units)
  bus ← byte (λ n. n < image.buses)
  judged place (IsAfter EnableBefore front (record { unit = unit; bus = bus })) (record { unit = unit; bus = bus })

abbrev pub take_of : (unit port bus reg : ℕ) → Take
take_of unit port bus reg = record { port = record { unit = unit; port = port }; bus = bus; reg = reg }

-- a take after those in front, whose first byte is at the place
unfoldable pub take : Image → List Take → (place : List ℕ) → Layout Take
take image front place = do
  unit ← byte (λ n. n < length image.units)
  port ← byte (λ n. n < length (files_of image unit))
  bus ← byte (λ n. n < image.buses)
  reg ← byte (λ n. n < length (nth (files_of image unit) port []))
  judged place (IsAfter TakeBefore front (take_of unit port bus reg)) (take_of unit port bus reg)

-- the issues, the enables, the takes, each list after its length
unfoldable pub word : Image → Layout Word
word image = do
  issues ← byte (λ n. n ≤ length image.units) >>= many (issue image) []
  enables ← field two_bytes (IsWithin 0 1024) >>= many (λ front. placed (enable image front)) []
  takes ← field two_bytes (IsWithin 0 1024) >>= many (λ front. placed (take image front)) []
  given (record { issues = issues; enables = enables; takes = takes })
