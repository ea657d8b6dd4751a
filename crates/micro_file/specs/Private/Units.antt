-- The units of a file, in any form.
use Rattle.std.specs.Prelude.{ℕ, zero, suc, ◌+◌, List, [], length, slice_get, Option, Some, None, Result, Ok, Err, Bool}
use Rattle.std.specs.Prelude.{true, false, if◌then◌else◌, ℤ}
use Rattle.operations.specs.declared.units.Kind.{Kind}
use Rattle.operations.specs.declared.units.Kind.TheVariants as kind
use Rattle.micro_image.specs.declared.image.UnitDesc.{UnitDesc}
use Rattle.micro_image.specs.Valid.{ports}
use Rattle.micro_file.specs.declared.misread.Misread.{Misread}
use Rattle.micro_file.specs.declared.misread.Misread.TheVariants.{Field}
use Rattle.micro_file.specs.Private.Fields.{Reading, ◌>>=◌, many_at}
use Rattle.micro_file.specs.Private.FormAt.{FormAt}

-- the kind is that of rams
abbrev pub is_ram : Kind → Bool
is_ram kind.Ram = true
is_ram _ = false

-- there is a unit, and it is a ram
abbrev pub is_some_ram : Option UnitDesc → Bool
is_some_ram None = false
is_some_ram (Some unit) = is_ram unit.kind

-- an acu has a ram among the units
abbrev pub is_tied_by : Kind → ℕ → List UnitDesc → Bool
is_tied_by kind.Acu ram units = is_some_ram (slice_get units ram)
is_tied_by _ ram units = true

-- the same of a unit
abbrev pub is_tied : List UnitDesc → UnitDesc → Bool
is_tied units unit = is_tied_by unit.kind unit.ram units

module _ (form : FormAt) where
  -- a register file: its size, and the initial words of its registers
  unfoldable pub file_at : List ℕ → Reading (List ℤ)
  file_at left = form.registers left >>= λ size. form.initial size.0 size.1

  -- the cells of a ram, and none of another unit
  unfoldable pub cells_at : Kind → List ℕ → Reading (List ℤ)
  cells_at kind.Ram left = form.cells left >>= λ size. form.initial size.0 size.1
  cells_at _ left = Ok ([], left)

  -- the number of an acu's ram, and 0 at another unit
  unfoldable pub ram_at : Kind → List ℕ → Reading ℕ
  ram_at kind.Acu left = form.ram left
  ram_at _ left = Ok (0, left)

  -- a unit; which ram an acu has is judged when all units are read
  unfoldable pub unit_at : List ℕ → Reading UnitDesc
  unit_at left = do
    kind ← form.kind left
    latency ← form.latency kind.1
    gap ← form.gap latency.0 latency.1
    files ← many_at (λ _. file_at) [] (ports kind.0) gap.1
    cells ← cells_at kind.0 files.1
    ram ← ram_at kind.0 cells.1
    Ok (
      record { kind = kind.0; latency = latency.0; gap = gap.0; files = files.0; cells = cells.0; ram = ram.0 },
      ram.1,
    )

  -- the unit, which ends where so much is left, is tied to a ram of the units; else its last field, the number of its
  -- ram, is not allowed
  abbrev pub judged : List UnitDesc → UnitDesc → ℕ → Result (Unit {0}) Misread
  judged units unit behind = if is_tied units unit then Ok tt else Err (Field (behind + form.ram_length))

  -- the same of so many units, one after another, the first of which is in front
  unfoldable pub judged_at : List UnitDesc → ℕ → List ℕ → Result (Unit {0}) Misread
  judged_at units zero left = Ok tt
  judged_at units (suc n) left = do
    unit ← unit_at left
    ok ← judged units unit.0 (length unit.1)
    judged_at units n unit.1

  -- so many units, each acu with its ram
  unfoldable pub some_units_at : ℕ → List ℕ → Reading (List UnitDesc)
  some_units_at count left = do
    units ← many_at (λ _. unit_at) [] count left
    ok ← judged_at units.0 count left
    Ok units

  -- a count, and this many units
  unfoldable pub units_at : List ℕ → Reading (List UnitDesc)
  units_at left = form.units left >>= λ count. some_units_at count.0 count.1
