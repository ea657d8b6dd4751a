-- The microwords of a file of version 1: what is issued, which buses are driven, which registers are written.
use Rattle.std.specs.Prelude.{ℕ, List, [], length, slice_get, Ok}
use Rattle.std.specs.Int.{w16}
use Rattle.micro_image.specs.declared.image.Enable.{Enable}
use Rattle.micro_image.specs.declared.image.Image.{Image}
use Rattle.micro_image.specs.declared.image.Issue.{Issue}
use Rattle.micro_image.specs.declared.image.Take.{Take}
use Rattle.micro_image.specs.declared.image.Word.{Word}
use Rattle.micro_file.specs.Private.Bytes.{at_bytes, byte_at, byte_below, byte_upto, number_within}
use Rattle.micro_file.specs.Private.Fields.{Reading, ◌>>=◌, kept, found, last_of, many_at}
use Rattle.micro_file.specs.Private.Hardware.{issue_on_at}
use Rattle.micro_file.specs.Private.Order.{is_above, kept_next, enable_before, take_before}

-- an issue after those in front: its unit is there and rises
unfoldable pub issue_at : Image → List Issue → List ℕ → Reading Issue
issue_at image front bytes = do
  number ← byte_at bytes
  unit ← found bytes (slice_get image.units number.0)
  number ← kept bytes (is_above (last_of front) number.0) number
  issue_on_at at_bytes image number.0 unit number.1

-- an enable, which drives a bus, after those in front: unit and bus
unfoldable pub enable_at : Image → List Enable → List ℕ → Reading Enable
enable_at image front bytes = do
  unit ← byte_below (length image.units) bytes
  bus ← byte_below image.buses unit.1
  kept_next enable_before front bytes (record { unit = unit.0; bus = bus.0 }, bus.1)

-- a take, which writes a register, after those in front: unit, port, bus and register
unfoldable pub take_at : Image → List Take → List ℕ → Reading Take
take_at image front bytes = do
  number ← byte_at bytes
  unit ← found bytes (slice_get image.units number.0)
  port ← byte_at number.1
  file ← found number.1 (slice_get unit.files port.0)
  bus ← byte_below image.buses port.1
  reg ← byte_below (length file) bus.1
  kept_next take_before front bytes (
    record { port = record { unit = number.0; port = port.0 }; bus = bus.0; reg = reg.0 },
    reg.1,
  )

-- a count, and this many issues
unfoldable pub issues_at : Image → List ℕ → Reading (List Issue)
issues_at image bytes = byte_upto (length image.units) bytes >>= λ count. many_at (issue_at image) [] count.0 count.1

-- a count, and this many enables
unfoldable pub enables_at : Image → List ℕ → Reading (List Enable)
enables_at image bytes = number_within w16 0 1024 bytes >>= λ count. many_at (enable_at image) [] count.0 count.1

-- a count, and this many takes
unfoldable pub takes_at : Image → List ℕ → Reading (List Take)
takes_at image bytes = number_within w16 0 1024 bytes >>= λ count. many_at (take_at image) [] count.0 count.1

-- a microword: its issues, enables and takes
unfoldable pub word_at : Image → List ℕ → Reading Word
word_at image bytes = do
  issues ← issues_at image bytes
  enables ← enables_at image issues.1
  takes ← takes_at image enables.1
  Ok (record { issues = issues.0; enables = enables.0; takes = takes.0 }, takes.1)
