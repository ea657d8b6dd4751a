-- What a plan needs of a datapath: its units, and the routes between them.
use Rattle.std.specs.Prelude.{◌≡◌, ℕ, ◌<◌, [], length, slice_index_or, Contains}
use Rattle.operations.specs.declared.units.Kind.{Kind}
use Rattle.operations.specs.declared.units.Kind.TheVariants as kind
use Rattle.operations.specs.declared.units.PortRef.{PortRef}
pub use Rattle.operations.specs.Operations.{kind_of}
use Rattle.datapath.specs.declared.types.Unit.{Unit as FunctionalUnit}
use Rattle.datapath.specs.declared.types.Bus.{Bus}
use Rattle.datapath.specs.declared.types.Datapath.{Datapath}

-- what stands in the place of a unit or a bus that is not there
abbrev pub no_unit : FunctionalUnit
no_unit = record { name = []; kind = kind.Input; latency = 1; gap = 1; files = []; cells = 0; ram = 0 }

abbrev pub no_bus : Bus
no_bus = record { name = []; from = []; to = [] }

-- unit u
abbrev pub unit_of : Datapath → ℕ → FunctionalUnit
unit_of d u = slice_index_or d.units u no_unit

abbrev pub latency_on : Datapath → ℕ → ℕ
latency_on d u = (unit_of d u).latency

abbrev pub gap_on : Datapath → ℕ → ℕ
gap_on d u = (unit_of d u).gap

-- how many cells ram u has
abbrev pub cells_on : Datapath → ℕ → ℕ
cells_on d u = (unit_of d u).cells

-- the ram that acu u addresses
abbrev pub tie_of : Datapath → ℕ → ℕ
tie_of d u = (unit_of d u).ram

-- how many registers the file of a port has
abbrev pub file_size : Datapath → PortRef → ℕ
file_size d port = slice_index_or (unit_of d port.unit).files port.port 0

abbrev pub port_of : (unit port : ℕ) → PortRef
port_of unit port = record { unit = unit; port = port }

-- the unit is there and of this kind
pub record IsOfKind (d : Datapath) (unit_kind : Kind) (u : ℕ) : Type 0 where
  pub there : u < length d.units
  pub kind : (unit_of d u).kind ≡ unit_kind

-- unit u is an acu that addresses this ram
pub record IsAcuOf (d : Datapath) (ram u : ℕ) : Type 0 where
  pub acu : IsOfKind d kind.Acu u
  pub tie : tie_of d u ≡ ram

-- bus b is a route from unit u to the port: the unit can drive it, and the port's file can take from it
pub record IsRoute (d : Datapath) (u : ℕ) (port : PortRef) (b : ℕ) : Type 0 where
  pub there : b < length d.buses
  pub driver : Contains (slice_index_or d.buses b no_bus).from u
  pub taker : Contains (slice_index_or d.buses b no_bus).to port

-- some bus is one
abbrev pub HasRoute : Datapath → (u : ℕ) → PortRef → Type 0
HasRoute d u port = (b : ℕ) × IsRoute d u port b
