-- Which datapath a file describes, or the first fault that it has: PathOf.
use Rattle.std.specs.Prelude.{ℕ, ◌-◌, nat_lt, ◌^◌, List, [], ◌∷◌, length, map, codes, Bool, false, Option, Some, None}
use Rattle.std.specs.Prelude.{option_and_then, Ok, Err, if◌then◌else◌}
use Rattle.std.specs.List.{sum_by}
use Rattle.std.specs.Option.{ok_or}
use Rattle.std.specs.Result.{result_ok}
use Rattle.std.specs.Str.{is_utf8}
use Rattle.toml.specs.Data.{Members, get_member}
use Rattle.toml.specs.Parse.{parse_document}
use Rattle.datapath.specs.declared.fault.Section.{Section}
use Rattle.datapath.specs.declared.fault.Section.TheVariants as section
use Rattle.datapath.specs.declared.fault.PathFault.TheVariants.{TooLong, NotToml, UnknownUnit}
use Rattle.datapath.specs.declared.types.Bus.{Bus}
use Rattle.datapath.specs.declared.types.Datapath.{Datapath}
use Rattle.operations.specs.declared.units.Kind.{Kind}
use Rattle.datapath.specs.declared.types.Unit as of_unit
use Rattle.datapath.specs.Table as row
use Rattle.datapath.specs.Table.{ports, is_ram, is_acu, top_keys, unit_keys, bus_keys, most_entries}
use Rattle.datapath.specs.Values.{kind}
use Rattle.datapath.specs.Reading.{Read, ◌>>=◌, key, only, where_has, in_turn}
use Rattle.datapath.specs.Names.{new_name, ram_named, driver, sink}

-- the kind that a unit's table names, if it names one
unfoldable pub kind_known : Members → Option Kind
kind_known t = option_and_then (λ d. result_ok (kind d)) (get_member (codes "kind") t)

-- a unit, but for the position of its ram
unfoldable pub unit_in : Section → Members → Read of_unit.Unit
unit_in s t = do
  known ← only s t (unit_keys (kind_known t))
  name ← key s t row.name
  kind ← key s t row.kind
  latency ← key s t row.latency
  gap ← key s t (row.gap latency)
  files ← key s t (row.files (ports kind))
  cells ← where_has (is_ram kind) (key s t row.cells) 0
  ram ← where_has (is_acu kind) (key s t row.ram) []
  Ok (record { name = name; kind = kind; latency = latency; gap = gap; files = files; cells = cells; ram = 0 })

abbrev pub unit_at : List of_unit.Unit → Members → Read of_unit.Unit
unit_at before t = unit_in (section.Unit (length before)) t

abbrev pub unit_name_at : List (List ℕ) → List ℕ → Read (List ℕ)
unit_name_at before name = new_name (section.Unit (length before)) before name

-- the kind is known, and is acu
abbrev pub is_known_acu : Option Kind → Bool
is_known_acu (Some kind) = is_acu kind
is_known_acu None = false

-- the position of the ram that an acu's table names
unfoldable pub ram_in : Section → List of_unit.Unit → Members → Read ℕ
ram_in s units t =
    where_has (is_known_acu (kind_known t))
    (key s t row.ram >>= λ name. ok_or (ram_named units name) (UnknownUnit s)) 0

abbrev pub ram_at : List of_unit.Unit → List ℕ → Members → Read ℕ
ram_at units before t = ram_in (section.Unit (length before)) units t

-- a unit with the position of its ram
abbrev pub with_ram : of_unit.Unit → ℕ → of_unit.Unit
with_ram unit ram = record {
  name = unit.name;
  kind = unit.kind;
  latency = unit.latency;
  gap = unit.gap;
  files = unit.files;
  cells = unit.cells;
  ram = ram;
}

unfoldable pub with_rams : List of_unit.Unit → List ℕ → List of_unit.Unit
with_rams units [] = units
with_rams [] (ram ∷ rams) = []
with_rams (unit ∷ units) (ram ∷ rams) = with_ram unit ram ∷ with_rams units rams

-- all tables of units, then all names, then all rams
unfoldable pub units_of : List Members → Read (List of_unit.Unit)
units_of tables = do
  units ← in_turn unit_at [] tables
  names ← in_turn unit_name_at [] (map (λ unit. unit.name) units)
  rams ← in_turn (ram_at units) [] tables
  Ok (with_rams units rams)

-- how many `to` entries may still come after these buses
abbrev pub room_after : List Bus → ℕ
room_after buses = most_entries - sum_by (λ bus. length bus.to) buses

-- a bus, whose table is judged before its name and its entries
unfoldable pub bus_in : Section → List of_unit.Unit → List Bus → Members → Read Bus
bus_in s units before t = do
  known ← only s t bus_keys
  name ← key s t row.name
  from ← key s t row.from
  to ← key s t (row.to (room_after before))
  fresh ← new_name s (map (λ bus. bus.name) before) name
  drivers ← in_turn (driver s units) [] from
  sinks ← in_turn (sink s units) [] to
  Ok (record { name = name; from = drivers; to = sinks })

abbrev pub bus_at : List of_unit.Unit → List Bus → Members → Read Bus
bus_at units before t = bus_in (section.Bus (length before)) units before t

-- the top table, then the units, then the buses
unfoldable pub path_at : Members → Read Datapath
path_at t = do
  known ← only section.Top t top_keys
  period ← key section.Top t row.period
  word ← key section.Top t row.word
  hold ← key section.Top t row.hold
  unit ← key section.Top t row.unit
  bus ← key section.Top t row.bus
  units ← units_of unit
  buses ← in_turn (bus_at units) [] bus
  Ok (record { period = period; word = word; hold = hold; units = units; buses = buses })

abbrev pub path_in : Option Members → Read Datapath
path_in None = Err NotToml
path_in (Some t) = path_at t

-- what the bytes of a datapath file describe, or their first fault
unfoldable pub path_of : List ℕ → Read Datapath
path_of bytes =
    if nat_lt (2 ^ 20) (length bytes) then Err TooLong
    else path_in (if is_utf8 bytes then parse_document bytes else None)
