-- The microwords of a file of version 2: unit by unit what is issued, then which buses are driven, then file by file
-- which registers are written.
use Rattle.std.specs.Prelude.{ℕ, zero, suc, ◌-◌, ◌==◌, if◌then◌else◌, List, [], ◌∷◌, ◌++◌, length, Ok}
use Rattle.micro_image.specs.declared.image.Enable.{Enable}
use Rattle.micro_image.specs.declared.image.Image.{Image}
use Rattle.micro_image.specs.declared.image.Issue.{Issue}
use Rattle.micro_image.specs.declared.image.Take.{Take}
use Rattle.micro_image.specs.declared.image.Word.{Word}
use Rattle.micro_image.specs.Fields.{nth, no_unit}
use Rattle.operations.specs.declared.units.PortRef.{PortRef}
use Rattle.micro_file.specs.Private.Bits.{at_bits, number_at, number_below}
use Rattle.micro_file.specs.Private.Fields.{Reading, ◌>>=◌, refused, each_at}
use Rattle.micro_file.specs.Private.Hardware.{issue_on_at}
use Rattle.micro_file.specs.Private.Order.{kept_next, take_before}

-- a value is put behind those in front
abbrev pub put_behind : {A : Type 0} → List A → Reading A → Reading (List A)
put_behind front reading = reading >>= λ x. Ok (front ++ x.0 ∷ [], x.1)

-- a flag; where it is 1, the unit's issue
unfoldable pub slot_at : Image → List Issue → (unit : ℕ) → List ℕ → Reading (List Issue)
slot_at image front unit bits =
    number_at 1 bits >>= λ flag.
    if flag.0 == 0
    then Ok (front, flag.1)
    else put_behind front (issue_on_at at_bits image unit (nth image.units unit no_unit) flag.1)

-- unit by unit
unfoldable pub slots_at : Image → List ℕ → Reading (List Issue)
slots_at image = each_at (slot_at image) [] 0 (length image.units)

-- a flag, which is 1 where the unit drives the bus
unfoldable pub drive_at : (unit : ℕ) → List Enable → (bus : ℕ) → List ℕ → Reading (List Enable)
drive_at unit front bus bits =
    number_at 1 bits >>= λ flag.
    Ok (if flag.0 == 0 then front else front ++ record { unit = unit; bus = bus } ∷ [], flag.1)

-- bus by bus
unfoldable pub unit_drives_at : Image → List Enable → (unit : ℕ) → List ℕ → Reading (List Enable)
unit_drives_at image front unit = each_at (drive_at unit) front 0 image.buses

-- unit by unit
unfoldable pub drives_at : Image → List ℕ → Reading (List Enable)
drives_at image = each_at (unit_drives_at image) [] 0 (length image.units)

-- the most takes of a word
abbrev pub most_takes : ℕ
most_takes = 1024

-- a take at the port, whose file has so many registers: its bus and its register, behind a flag; it comes after those
-- before it, or it is refused where the flag is
unfoldable pub taken_at : Image → PortRef → (size : ℕ) → List Take → (flag : List ℕ) → List ℕ → Reading Take
taken_at image port size front flag bits = do
  bus ← number_below 5 image.buses bits
  reg ← number_below 8 size bus.1
  kept_next take_before front flag (record { port = port; bus = bus.0; reg = reg.0 }, reg.1)

-- the takes into a file, each behind a 1, then a 0; the word has room for so many more
unfoldable pub takes_at : Image → PortRef → (size : ℕ) → (room : ℕ) → List Take → List ℕ → Reading (List Take)
takes_at image port size zero front bits =
    number_at 1 bits >>= λ flag. if flag.0 == 0 then Ok (front, flag.1) else refused bits
takes_at image port size (suc room) front bits =
    number_at 1 bits >>= λ flag.
    if flag.0 == 0
    then Ok (front, flag.1)
    else (taken_at image port size front bits flag.1 >>= λ x. takes_at image port size room (front ++ x.0 ∷ []) x.1)

-- the takes into the file at a port
unfoldable pub file_takes_at : Image → (unit : ℕ) → List Take → (port : ℕ) → List ℕ → Reading (List Take)
file_takes_at image unit front port =
    takes_at image (record { unit = unit; port = port }) (length (nth (nth image.units unit no_unit).files port []))
    (most_takes - length front) front

-- file by file
unfoldable pub unit_takes_at : Image → List Take → (unit : ℕ) → List ℕ → Reading (List Take)
unit_takes_at image front unit =
    each_at (file_takes_at image unit) front 0 (length (nth image.units unit no_unit).files)

-- unit by unit
unfoldable pub word_takes_at : Image → List ℕ → Reading (List Take)
word_takes_at image = each_at (unit_takes_at image) [] 0 (length image.units)

-- a microword: its issues, enables and takes
unfoldable pub packed_word_at : Image → List ℕ → Reading Word
packed_word_at image bits = do
  issues ← slots_at image bits
  enables ← drives_at image issues.1
  takes ← word_takes_at image enables.1
  Ok (record { issues = issues.0; enables = enables.0; takes = takes.0 }, takes.1)
