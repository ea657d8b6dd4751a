-- The rows of a reservation table, and in which cycles an operation can end.
use Rattle.std.specs.Prelude.{◌≡◌, ℕ, ◌+◌, ◌-◌, ◌*◌, ◌/◌, ◌%◌, ◌<◌, ◌≤◌, List, length, replicate, slice_index}
use Rattle.std.specs.Prelude.{slice_index_or, Contains, Option, Some, None, refl}
use Rattle.std.specs.List.{All}
use Rattle.std.specs.Int.{bit_at}
use Rattle.operations.specs.declared.units.PortRef.{PortRef}
use Rattle.datapath.specs.declared.types.Bus.{Bus}
use Rattle.plan_core.specs.Hardware.{no_bus}
use Rattle.bit_sets.specs.Bits.{Has}
use Rattle.bit_sets.specs.declared.set32.Set32.{Set32}
use Rattle.bus_alloc.specs.declared.cycles.CycleSet.{CycleSet}
use Rattle.bus_alloc.specs.declared.rows.UnitRow.{UnitRow}
use Rattle.bus_alloc.specs.declared.rows.FileRow.{FileRow}
use Rattle.bus_alloc.specs.declared.rows.Rows.{Rows}

-- what the unit can drive, and what leads to the port
pub record CanDrive (buses : List Bus) (unit b : ℕ) : Type 0 where
  pub there : b < length buses
  pub driver : Contains (slice_index_or buses b no_bus).from unit

pub record LeadsTo (buses : List Bus) (port : PortRef) (b : ℕ) : Type 0 where
  pub there : b < length buses
  pub taker : Contains (slice_index_or buses b no_bus).to port

-- what stands in the place of a row that is not there
unfoldable pub no_cycles : CycleSet
no_cycles = record { words = replicate 64 0; full = refl }

abbrev pub no_unit_row : UnitRow
no_unit_row = record { latency = 1; gap = 1; drives = record { bits = 0 }; busy = no_cycles }

abbrev pub no_file_row : FileRow
no_file_row = record { sources = record { bits = 0 }; written = no_cycles }

-- the row of a unit, of the register file of a port, and the words of the set of a bus
abbrev pub unit_row : Rows → ℕ → UnitRow
unit_row rows u = slice_index_or rows.units u no_unit_row

abbrev pub file_row : Rows → PortRef → FileRow
file_row rows port = slice_index_or rows.files (3 * port.unit + port.port) no_file_row

abbrev pub bus_words : Rows → ℕ → List ℕ
bus_words rows b = (slice_index_or rows.buses b no_cycles).words

-- an operation takes 1 to 8 cycles, and the next may begin after 1 to as many
pub record IsTiming (row : UnitRow) : Type 0 where
  pub some : 1 ≤ row.gap
  pub short : row.gap ≤ row.latency
  pub most : row.latency ≤ 8

-- each unit has three files, and there are 32 buses
pub record AreRows (rows : Rows) : Type 0 where
  pub period : rows.period ≤ 4096
  pub few : length rows.units ≤ 32
  pub files : length rows.files ≡ 3 * length rows.units
  pub buses : length rows.buses ≡ 32
  pub timings : All IsTiming rows.units

abbrev pub IsPortIn : Rows → PortRef → Type 0
IsPortIn rows port = (port.unit < length rows.units) × (port.port < 3)

-- the cycle of the result of an operation that unit u is issued at cycle t, if it ends in the period
abbrev pub IsResultCycle : Rows → (u t : ℕ) → Option ℕ → Type 0
IsResultCycle rows u t None = rows.period < t + (unit_row rows u).latency
IsResultCycle rows u t (Some end) =
    (t + (unit_row rows u).latency ≤ rows.period) × (end ≡ t + ((unit_row rows u).latency - 1))

-- what is open at bit i of the word with this index
module _ (rows : Rows) where
  -- one of these buses
  pub record IsBusOpen (buses : Set32) (index i : ℕ) : Type 0 where
    pub b : ℕ
    pub number : b < 32
    pub there : Has buses.bits b
    pub open_bit : bit_at (slice_index (bus_words rows b) index) i ≡ 0

  -- one of the buses from the unit to the port, which are in both sets
  pub record IsRouteOpen (drives sources : Set32) (index i : ℕ) : Type 0 where
    pub b : ℕ
    pub number : b < 32
    pub drive : Has drives.bits b
    pub source : Has sources.bits b
    pub open_bit : bit_at (slice_index (bus_words rows b) index) i ≡ 0

  -- the register file of the port, and a route to it
  pub record IsPortOpen (u : ℕ) (port : PortRef) (index i : ℕ) : Type 0 where
    pub file : bit_at (slice_index (file_row rows port).written.words index) i ≡ 0
    pub bus : IsRouteOpen (unit_row rows u).drives (file_row rows port).sources index i

  -- the unit, and all ports
  pub record IsOpenIn (u : ℕ) (dests : List PortRef) (index i : ℕ) : Type 0 where
    pub unit : bit_at (slice_index (unit_row rows u).busy.words index) i ≡ 0
    pub ports : All (λ port. IsPortOpen u port index i) dests

  -- an operation on the unit can end in the cycle, with its result going to these ports
  abbrev pub IsOpen : (u : ℕ) → List PortRef → (cycle : ℕ) → Type 0
  IsOpen u dests cycle = IsOpenIn u dests (cycle / 64) (cycle % 64)

  -- the first such cycle from this one on
  pub record IsFirstOpenAt (u : ℕ) (dests : List PortRef) (from cycle : ℕ) : Type 0 where
    pub after : from ≤ cycle
    pub period : cycle < rows.period
    pub is_open : IsOpen u dests cycle
    pub first : (c : ℕ) → from ≤ c → c < cycle → IsOpen u dests c → ⊥

  abbrev pub IsFirstOpen : (u : ℕ) → List PortRef → (from : ℕ) → Option ℕ → Type 0
  IsFirstOpen u dests from None = (c : ℕ) → from ≤ c → c < rows.period → IsOpen u dests c → ⊥
  IsFirstOpen u dests from (Some cycle) = IsFirstOpenAt u dests from cycle

  -- how many cycles from this one on, around the period, it is to the first such cycle
  pub record IsFirstOpenAfter (u : ℕ) (dests : List PortRef) (from away : ℕ) : Type 0 where
    pub within : away < rows.period
    pub is_open : IsOpen u dests ((from + away) % rows.period)
    pub first : (c : ℕ) → c < away → IsOpen u dests ((from + c) % rows.period) → ⊥

  abbrev pub IsFirstOpenAround : (u : ℕ) → List PortRef → (from : ℕ) → Option ℕ → Type 0
  IsFirstOpenAround u dests from None = (c : ℕ) → c < rows.period → IsOpen u dests c → ⊥
  IsFirstOpenAround u dests from (Some away) = IsFirstOpenAfter u dests from away

-- the first bit that is 0
pub record IsFirstZero (word k : ℕ) : Type 0 where
  pub within : k < 64
  pub zero_bit : bit_at word k ≡ 0
  pub ones : (i : ℕ) → i < k → bit_at word i ≡ 1
