-- Which datapath a file describes: each field is what the file has at its key, or the key's default.
use Rattle.std.specs.Prelude.{true, ◌≡◌, ◌≢◌, ℕ, ◌+◌, ◌≤◌, ◌^◌, List, [], ◌∷◌, ◌++◌, length, map, slice_get, IsSomeAnd}
use Rattle.std.specs.Prelude.{Some, Ok, MatchOption}
use Rattle.std.specs.List.{AllZip, sum_by}
use Rattle.std.specs.Str.{is_utf8}
use Rattle.toml.specs.Data.{Members, get_member}
use Rattle.toml.specs.Parse.{parse_document}
use Rattle.datapath.specs.declared.types.Bus.{Bus}
use Rattle.datapath.specs.declared.types.Datapath.{Datapath}
use Rattle.datapath.specs.declared.types.Unit as of_unit
use Rattle.operations.specs.declared.units.Kind.TheVariants.{Ram, Acu}
use Rattle.operations.specs.declared.units.PortRef.{PortRef}
use Rattle.datapath.specs.Table as row
use Rattle.datapath.specs.Table.{Row, ports, top_keys, unit_keys, bus_keys, most_entries}
use Rattle.datapath.specs.Reading.{keys_among}
use Rattle.datapath.specs.Allowed.{IsDistinct, IsPort}

-- x is what the table has at the key of the row, or the row's default where the key is missing
abbrev pub IsValue : {A : Type 0} → Row A → Members → A → Type 0
IsValue r t x = MatchOption (get_member r.key t) (r.default ≡ Some x) (λ d. r.value d ≡ Ok x)

-- the table has no keys but these
abbrev pub HasOnly : List (List ℕ) → Members → Type 0
HasOnly keys t = keys_among keys t ≡ true

-- unit u has the name
abbrev pub IsUnitNamed : List of_unit.Unit → List ℕ → ℕ → Type 0
IsUnitNamed units name u = IsSomeAnd (slice_get units u) (λ unit. unit.name ≡ name)

-- it is a ram
abbrev pub IsRamNamed : List of_unit.Unit → List ℕ → ℕ → Type 0
IsRamNamed units name u = IsSomeAnd (slice_get units u) (λ unit. (unit.kind ≡ Ram) × (unit.name ≡ name))

-- the text is the name of the port's unit, a dot, and the port as a digit
pub record IsPortNamed (units : List of_unit.Unit) (text : List ℕ) (port : PortRef) : Type 0 where
  pub there : IsPort units port
  pub unit : List ℕ
  pub named : IsUnitNamed units unit port.unit
  pub spelled : text ≡ unit ++ 46 ∷ (48 + port.port) ∷ []

-- the table describes this one of the units
pub record IsUnitIn (units : List of_unit.Unit) (t : Members) (unit : of_unit.Unit) : Type 0 where
  pub keys : HasOnly (unit_keys (Some unit.kind)) t
  pub name : IsValue row.name t unit.name
  pub kind : IsValue row.kind t unit.kind
  pub latency : IsValue row.latency t unit.latency
  pub gap : IsValue (row.gap unit.latency) t unit.gap
  pub files : IsValue (row.files (ports unit.kind)) t unit.files
  pub cells : unit.kind ≡ Ram → IsValue row.cells t unit.cells
  pub no_cells : unit.kind ≢ Ram → unit.cells ≡ 0
  pub ram : unit.kind ≡ Acu → (name : List ℕ) × IsValue row.ram t name × IsRamNamed units name unit.ram
  pub no_ram : unit.kind ≢ Acu → unit.ram ≡ 0

-- the table describes a bus of the units
pub record IsBusIn (units : List of_unit.Unit) (t : Members) (bus : Bus) : Type 0 where
  pub keys : HasOnly bus_keys t
  pub name : IsValue row.name t bus.name
  pub from : List (List ℕ)
  pub from_is : IsValue row.from t from
  pub drivers : AllZip (IsUnitNamed units) from bus.from
  pub drivers_once : IsDistinct bus.from
  pub to : List (List ℕ)
  pub to_is : IsValue (row.to most_entries) t to
  pub sinks : AllZip (IsPortNamed units) to bus.to
  pub sinks_once : IsDistinct bus.to

-- the top table describes the datapath
pub record IsPathIn (t : Members) (d : Datapath) : Type 0 where
  pub keys : HasOnly top_keys t
  pub period : IsValue row.period t d.period
  pub word : IsValue row.word t d.word
  pub hold : IsValue row.hold t d.hold
  pub unit : List Members
  pub unit_is : IsValue row.unit t unit
  pub bus : List Members
  pub bus_is : IsValue row.bus t bus
  pub units : AllZip (IsUnitIn d.units) unit d.units
  pub unit_names : IsDistinct (map (λ unit. unit.name) d.units)
  pub buses : AllZip (IsBusIn d.units) bus d.buses
  pub bus_names : IsDistinct (map (λ bus. bus.name) d.buses)
  pub to_count : sum_by (λ bus. length bus.to) d.buses ≤ most_entries

-- the bytes are a file of the datapath
pub record IsPathOf (bytes : List ℕ) (d : Datapath) : Type 0 where
  pub short : length bytes ≤ 2 ^ 20
  pub text : is_utf8 bytes ≡ true
  pub table : Members
  pub toml : parse_document bytes ≡ Some table
  pub path : IsPathIn table d
