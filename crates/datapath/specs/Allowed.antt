-- A datapath whose numbers are those that a file may have.
use Rattle.std.specs.Prelude.{true, ◌≡◌, ◌≢◌, ◌<◌, ◌≤◌, List, length, map, slice_get, IsSomeAnd}
use Rattle.std.specs.List.{All, AllPairs, sum_by}
pub use Rattle.operations.specs.Ranges.{IsWithin}
use Rattle.datapath.specs.declared.types.Bus.{Bus}
use Rattle.datapath.specs.declared.types.Datapath.{Datapath}
use Rattle.operations.specs.declared.units.Kind.TheVariants.{Ram, Acu}
use Rattle.operations.specs.declared.units.PortRef.{PortRef}
use Rattle.datapath.specs.declared.types.Unit as of_unit
use Rattle.datapath.specs.Values.{is_name}
use Rattle.datapath.specs.Table.{ports, most_entries}

-- no two are the same
abbrev pub IsDistinct : {A : Type 0} → List A → Type 0
IsDistinct xs = AllPairs (λ x y. x ≢ y) xs

-- a unit among the units: an operation takes 1 to 8 cycles, the next may begin after 1 to as many, each port has a file
-- of 1 to 256 registers, a ram has 1 to 65536 cells, and an acu is tied to a ram
pub record IsUnit (units : List of_unit.Unit) (unit : of_unit.Unit) : Type 0 where
  pub name : is_name unit.name ≡ true
  pub latency : IsWithin 1 8 unit.latency
  pub gap : IsWithin 1 unit.latency unit.gap
  pub file_count : length unit.files ≡ ports unit.kind
  pub files : All (IsWithin 1 256) unit.files
  pub cells : unit.kind ≡ Ram → IsWithin 1 65536 unit.cells
  pub no_cells : unit.kind ≢ Ram → unit.cells ≡ 0
  pub ram : unit.kind ≡ Acu → IsSomeAnd (slice_get units unit.ram) (λ other. other.kind ≡ Ram)
  pub no_ram : unit.kind ≢ Acu → unit.ram ≡ 0

-- the unit is there and has the port
abbrev pub IsPort : List of_unit.Unit → PortRef → Type 0
IsPort units p = IsSomeAnd (slice_get units p.unit) (λ unit. p.port < ports unit.kind)

-- a bus of the units
pub record IsBus (units : List of_unit.Unit) (bus : Bus) : Type 0 where
  pub name : is_name bus.name ≡ true
  pub from : All (λ unit. unit < length units) bus.from
  pub from_once : IsDistinct bus.from
  pub to : All (IsPort units) bus.to
  pub to_once : IsDistinct bus.to

pub record IsDatapath (d : Datapath) : Type 0 where
  pub period : IsWithin 1 4096 d.period
  pub word : IsWithin 8 40 d.word
  pub hold : d.hold ≤ 3
  pub unit_count : IsWithin 1 32 (length d.units)
  pub units : All (IsUnit d.units) d.units
  pub unit_names : IsDistinct (map (λ unit. unit.name) d.units)
  pub bus_count : IsWithin 1 32 (length d.buses)
  pub buses : All (IsBus d.units) d.buses
  pub bus_names : IsDistinct (map (λ bus. bus.name) d.buses)
  pub to_count : sum_by (λ bus. length bus.to) d.buses ≤ most_entries
