-- What the flags of a word of version 2 stand for, in the order in which they stand.
use Rattle.std.specs.Prelude.{ℕ, ◌-◌, List, [], ◌∷◌, length, Ok}
use Rattle.std.specs.List.{flat_map, range_with_len}
use Rattle.micro_image.specs.declared.image.Enable.{Enable}
use Rattle.micro_image.specs.declared.image.Image.{Image}
use Rattle.micro_image.specs.declared.image.Take.{Take}
use Rattle.micro_image.specs.declared.image.UnitDesc.{UnitDesc}
use Rattle.micro_image.specs.declared.image.Word.{Word}
use Rattle.micro_image.specs.Fields.{nth, no_unit}
use Rattle.micro_file.specs.declared.word_flags.PortFile.{PortFile}
use Rattle.micro_file.specs.Private.Fields.{Reading, ◌>>=◌}
use Rattle.micro_file.specs.Private.PackedWords.{most_takes, slots_at, drive_at, takes_at}

-- the unit drives the bus
abbrev pub drive_of : (unit bus : ℕ) → Enable
drive_of unit bus = record { unit = unit; bus = bus }

-- the register file at a port of the unit with this number
abbrev pub file_of : UnitDesc → (number port : ℕ) → PortFile
file_of unit number port =
    record { port = record { unit = number; port = port }; size = length (nth unit.files port []) }

-- bus by bus
abbrev pub unit_drives : (buses unit : ℕ) → List Enable
unit_drives buses unit = flat_map (λ bus. drive_of unit bus ∷ []) (range_with_len 0 buses)

-- unit by unit
unfoldable pub every_drive : Image → List Enable
every_drive image = flat_map (unit_drives image.buses) (range_with_len 0 (length image.units))

-- port by port
abbrev pub unit_files : UnitDesc → (number : ℕ) → List PortFile
unit_files unit number = flat_map (λ port. file_of unit number port ∷ []) (range_with_len 0 (length unit.files))

-- unit by unit
unfoldable pub every_file : Image → List PortFile
every_file image =
    flat_map (λ number. unit_files (nth image.units number no_unit) number) (range_with_len 0 (length image.units))

-- a flag, which is 1 where the bus is driven so
abbrev pub on_at : List Enable → Enable → List ℕ → Reading (List Enable)
on_at front drive = drive_at drive.unit front drive.bus

-- the takes into the file
abbrev pub into_at : Image → List Take → PortFile → List ℕ → Reading (List Take)
into_at image front file = takes_at image file.port file.size (most_takes - length front) front

-- what these put behind those in front, one after another
unfoldable pub over_at : {A B : Type 0}
    → (List A → B → List ℕ → Reading (List A))
    → List A
    → List B
    → List ℕ
    → Reading (List A)
over_at one front [] bits = Ok (front, bits)
over_at one front (y ∷ ys) bits = one front y bits >>= λ x. over_at one x.0 ys x.1

-- the enables of a word, a flag for each of these drives
abbrev pub listed_drives_at : List Enable → List ℕ → Reading (List Enable)
listed_drives_at = over_at on_at []

-- the takes of a word, file by file of these
abbrev pub listed_takes_at : Image → List PortFile → List ℕ → Reading (List Take)
listed_takes_at image = over_at (into_at image) []

-- a word, by these drives and files
unfoldable pub listed_word_at : Image → List Enable → List PortFile → List ℕ → Reading Word
listed_word_at image drives files bits = do
  issues ← slots_at image bits
  enables ← listed_drives_at drives issues.1
  takes ← listed_takes_at image files enables.1
  Ok (record { issues = issues.0; enables = enables.0; takes = takes.0 }, takes.1)
