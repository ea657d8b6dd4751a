-- The units of an image, and what their registers and cells hold.
use Rattle.std.specs.Prelude.{◌≡◌, ◌≢◌, ℕ, List, [], length, map, replicate, ℤ, pos}
use Rattle.datapath.specs.declared.types.Unit as of_unit
use Rattle.micro_image.specs.declared.image.UnitDesc.{UnitDesc}
use Rattle.micro_image.specs.Fields.{nth, no_unit}
use Rattle.micro_image.specs.Log.{Place, Register, Cell, Latch}

abbrev pub zeros : ℕ → List ℤ
zeros count = replicate count (pos 0)

-- a unit of the datapath, whose registers and cells hold 0
abbrev pub blank_unit : of_unit.Unit → UnitDesc
blank_unit unit = record {
  kind = unit.kind;
  latency = unit.latency;
  gap = unit.gap;
  files = map zeros unit.files;
  cells = zeros unit.cells;
  ram = unit.ram;
}

-- what a register or a cell of the units holds
abbrev pub held : List UnitDesc → Place → ℤ
held units (Register u q r) = nth (nth (nth units u no_unit).files q []) r (pos 0)
held units (Cell u c) = nth (nth units u no_unit).cells c (pos 0)
held units (Latch j) = pos 0

-- but for what its registers and cells hold, the unit is the other
pub record IsAlike (a b : UnitDesc) : Type 0 where
  pub kind : a.kind ≡ b.kind
  pub latency : a.latency ≡ b.latency
  pub gap : a.gap ≡ b.gap
  pub files : map length a.files ≡ map length b.files
  pub cells : length a.cells ≡ length b.cells
  pub ram : a.ram ≡ b.ram

-- the place holds the word, and all others hold what they held
pub record Writes (place : Place) (word : ℤ) (old new : List UnitDesc) : Type 0 where
  pub count : length new ≡ length old
  pub alike : (u : ℕ) → IsAlike (nth new u no_unit) (nth old u no_unit)
  pub here : held new place ≡ word
  pub others : (other : Place) → other ≢ place → held new other ≡ held old other
