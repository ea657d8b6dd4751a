-- The fault of bytes that spell no image: the first field, in reading order, that is not whole or not allowed, or the
-- first byte behind the last.
use Rattle.std.specs.Prelude.{◌≡◌, ℕ, ◌-◌, List, length}
use Rattle.micro_image.specs.Spells.{AreBytes}
use Rattle.micro_file.specs.declared.fault.FormFault.{FormFault}
use Rattle.micro_file.specs.declared.fault.FormFault.TheVariants as form
use Rattle.micro_file.specs.declared.misread.Misread.{Misread}
use Rattle.micro_file.specs.declared.misread.Misread.TheVariants.{Magic, Version, Short, Field, Trailing}
use Rattle.micro_file.specs.File.{Stops}

-- what was misread, with its place in a file of so many bytes: the byte in which a field that is not allowed begins,
-- the first byte behind the last field, or where a file that is too short ends
abbrev pub placed : ℕ → Misread → FormFault
placed size Magic = form.Magic
placed size Version = form.Version
placed size Short = form.Short size
placed size (Field left) = form.Field (size - left)
placed size (Trailing left) = form.Trailing (size - left)

-- the fields of a file, one after another, end at this fault; want of memory is none
pub record IsFormFault (bytes : List ℕ) (fault : FormFault) : Type 0 where
  pub are_bytes : AreBytes bytes
  pub misread : Misread
  pub stops : Stops bytes misread
  pub place : fault ≡ placed (length bytes) misread
