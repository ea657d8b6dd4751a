-- The fields of a file of version 2, in bits, and its microwords: unit by unit what is issued, then which buses are
-- driven, then file by file which registers are written.
use Rattle.std.specs.Prelude.{◌≡◌, ℕ, zero, suc, ◌-◌, ◌<◌, ◌==◌, List, [], ◌∷◌, ◌++◌, length, replicate, ℤ, pos, ◌-ℤ◌}
use Rattle.std.specs.Prelude.{false, if◌then◌else◌}
use Rattle.fix_word.specs.Words.{IsMachineWord}
use Rattle.fix_word.specs.declared.types.Format.{Format}
use Rattle.fix_word.specs.declared.types.Mode.TheVariants.{Trunc}
use Rattle.operations.specs.declared.units.PortRef.{PortRef}
use Rattle.micro_image.specs.declared.image.Enable.{Enable}
use Rattle.micro_image.specs.declared.image.Image.{Image}
use Rattle.micro_image.specs.declared.image.Issue.{Issue}
use Rattle.micro_image.specs.declared.image.Take.{Take}
use Rattle.micro_image.specs.declared.image.Word.{Word}
use Rattle.micro_image.specs.Bits.{bits, bits_less_1, raw_bits, are_zeros, in_bits}
use Rattle.micro_image.specs.Codes.{mode_number, place_width, place_of}
use Rattle.micro_image.specs.Fields.{nth, no_unit}
use Rattle.micro_image.specs.Operations.{is_formatted}
use Rattle.micro_image.specs.Valid.{IsWithin, TakeBefore}
use Rattle.micro_file.specs.Layout.{Layout, ◌>>=◌, field, given, placed, judged, choice, many, each}
use Rattle.micro_file.specs.Hardware.{Any, Own, issue_on}
use Rattle.micro_file.specs.Words.{IsAfter, files_of}

-- a number of so many bits, below the limit
abbrev pub number : (width limit : ℕ) → Layout ℕ
number width limit = field (bits width) (λ n. n < limit)

-- a bit, and what is behind a 0 and behind a 1
abbrev pub flagged : {A : Type 0} → (off on : Layout A) → Layout A
flagged off on = number 1 2 >>= λ flag. choice (flag == 0) off on

-- so many words, of which one at least is not 0, behind the 1 at the place
unfoldable pub some_words : ℕ → (place : List ℕ) → Layout (List ℤ)
some_words count place = do
  words ← many (λ _. field raw_bits IsMachineWord) [] count
  judged place (are_zeros words ≡ false) words

-- so many words: a 0 where all of them are 0, else a 1 and each
unfoldable pub preload : ℕ → Layout (List ℤ)
preload count = placed (λ place. flagged (given (replicate count (pos 0))) (some_words count place))

-- the shift plus 40, the mode, the width less 1
unfoldable pub some_packed_format : Layout Format
some_packed_format = do
  shift ← field (bits 7) (IsWithin 0 120)
  mode ← field (λ mode. bits 2 (mode_number mode)) Any
  width ← field (bits_less_1 6) (IsWithin 1 40)
  given (record { shift = pos shift -ℤ pos 40; mode = mode; width = width })

-- the registers of the ports that are read, and 0 for each of the others
unfoldable pub packed_registers : List (List ℤ) → ℕ → Layout (List ℕ)
packed_registers files reads = do
  regs ← many (λ front. number 8 (length (nth files (length front) []))) [] reads
  given (regs ++ replicate (length files - reads) 0)

abbrev pub own_bits : Own
own_bits = record {
  initial = preload;
  Ram = λ n. n < 32;
  operation = λ kind op. bits (place_width kind) (place_of op);
  format = λ op.
      choice (is_formatted op) some_packed_format (given (record { shift = pos 0; mode = Trunc; width = 0 }));
  named = packed_registers;
}

-- whether a unit has an issue, and the issue
unfoldable pub slot : Image → List Issue → (unit : ℕ) → Layout (List Issue)
slot image front unit =
    flagged (given front)
    (issue_on in_bits own_bits image unit (nth image.units unit no_unit) >>= λ x. given (front ++ x ∷ []))

-- whether a unit drives a bus
unfoldable pub drive : (unit : ℕ) → List Enable → (bus : ℕ) → Layout (List Enable)
drive unit front bus =
    number 1 2 >>= λ flag. given (if flag == 0 then front else front ++ record { unit = unit; bus = bus } ∷ [])

-- the most takes of a word
abbrev pub most_takes : ℕ
most_takes = 1024

abbrev pub take_at : PortRef → (bus reg : ℕ) → Take
take_at port bus reg = record { port = port; bus = bus; reg = reg }

-- a take into the file at a port, which has so many registers, after those in front, behind the 1 at the place
unfoldable pub packed_take : Image → PortRef → (size : ℕ) → List Take → (place : List ℕ) → Layout Take
packed_take image port size front place = do
  bus ← number 5 image.buses
  reg ← number 8 size
  judged place (IsAfter TakeBefore front (take_at port bus reg)) (take_at port bus reg)

-- the takes into a file, each behind a 1, then a 0; the word has room for so many more
unfoldable pub takes : Image → PortRef → (size room : ℕ) → List Take → Layout (List Take)
takes image port size zero front = number 1 1 >>= λ flag. given front
takes image port size (suc room) front =
    placed (λ place. flagged (given front)
    (packed_take image port size front place >>= λ x. takes image port size room (front ++ x ∷ [])))

-- the takes into the file at a port
unfoldable pub file_takes : Image → (unit : ℕ) → List Take → (port : ℕ) → Layout (List Take)
file_takes image unit front port =
    takes image (record { unit = unit; port = port }) (length (nth (files_of image unit) port []))
    (most_takes - length front) front

-- unit by unit the issue, then unit by unit the buses that it drives, then unit by unit the takes into its files
unfoldable pub packed_word : Image → Layout Word
packed_word image = do
  issues ← each (slot image) [] 0 (length image.units)
  enables ← each (λ front unit. each (drive unit) front 0 image.buses) [] 0 (length image.units)
  takes ←
      each (λ front unit. each (file_takes image unit) front 0 (length (files_of image unit))) [] 0 (length image.units)
  given (record { issues = issues; enables = enables; takes = takes })
