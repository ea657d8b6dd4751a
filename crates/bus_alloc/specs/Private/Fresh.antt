-- The rows of a table in which nothing is taken.
use Rattle.std.specs.Prelude.{◌≡◌, ℕ, ◌/◌, ◌%◌, ◌<◌, ◌*◌, ◌↔◌, List, length, slice_index_or}
use Rattle.datapath.specs.declared.types.Bus.{Bus}
use Rattle.datapath.specs.declared.types.Unit.{Unit as FunctionalUnit}
use Rattle.datapath.specs.declared.types.Datapath.{Datapath}
use Rattle.plan_core.specs.Hardware.{no_unit, port_of}
use Rattle.bit_sets.specs.Bits.{Has}
use Rattle.bus_alloc.specs.Sets.{mark}
use Rattle.bus_alloc.specs.Private.Rows.{CanDrive, LeadsTo, no_cycles, no_unit_row, no_file_row}
use Rattle.bus_alloc.specs.declared.cycles.CycleSet.{CycleSet}
use Rattle.bus_alloc.specs.declared.rows.UnitRow.{UnitRow}
use Rattle.bus_alloc.specs.declared.rows.FileRow.{FileRow}
use Rattle.bus_alloc.specs.declared.rows.Rows.{Rows}

abbrev pub IsEmpty : CycleSet → Type 0
IsEmpty set = (cycle : ℕ) → mark set.words cycle ≡ 0

pub record IsFreshUnit (unit : FunctionalUnit) (buses : List Bus) (u : ℕ) (row : UnitRow) : Type 0 where
  pub latency : row.latency ≡ unit.latency
  pub gap : row.gap ≡ unit.gap
  pub drives : (b : ℕ) → Has row.drives.bits b ↔ CanDrive buses u b
  pub busy : IsEmpty row.busy

pub record IsFreshFile (buses : List Bus) (number : ℕ) (row : FileRow) : Type 0 where
  pub sources : (b : ℕ) → Has row.sources.bits b ↔ LeadsTo buses (port_of (number / 3) (number % 3)) b
  pub written : IsEmpty row.written

pub record AreFreshUnits (units : List FunctionalUnit) (buses : List Bus) (count : ℕ) (rows : List UnitRow) : Type 0
  where
    pub count_is : length rows ≡ count
    pub each : (u : ℕ)
        → u < count
        → IsFreshUnit (slice_index_or units u no_unit) buses u (slice_index_or rows u no_unit_row)

pub record AreFreshFiles (buses : List Bus) (count : ℕ) (rows : List FileRow) : Type 0 where
  pub count_is : length rows ≡ count
  pub each : (number : ℕ) → number < count → IsFreshFile buses number (slice_index_or rows number no_file_row)

pub record AreFreshBuses (count : ℕ) (rows : List CycleSet) : Type 0 where
  pub count_is : length rows ≡ count
  pub each : (b : ℕ) → b < count → IsEmpty (slice_index_or rows b no_cycles)

pub record AreFresh (d : Datapath) (rows : Rows) : Type 0 where
  pub period : rows.period ≡ d.period
  pub units : AreFreshUnits d.units d.buses (length d.units) rows.units
  pub files : AreFreshFiles d.buses (3 * length d.units) rows.files
  pub buses : AreFreshBuses 32 rows.buses
