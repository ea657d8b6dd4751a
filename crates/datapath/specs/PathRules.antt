-- The rules of a datapath file, as a table in the order of its faults: each is a test, with the fault where it fails.
use Rattle.std.specs.Prelude.{ℕ, ◌-◌, nat_le, ◌^◌, List, [], length, map, take, Bool, true, false, not, ◌||◌, Option}
use Rattle.std.specs.Prelude.{Some, None, is_some, option_map, unwrap_or, Result, Err, if◌then◌else◌}
use Rattle.std.specs.List.{list_any, sum_by}
use Rattle.std.specs.Result.{result_ok}
use Rattle.std.specs.Str.{bytes_eq, is_utf8}
use Rattle.toml.specs.Data.{Members, get_member}
use Rattle.toml.specs.Parse.{parse_document}
use Rattle.fault_order.specs.Ranked.{IsFirst}
use Rattle.fault_order.specs.Rules.{Rules, RuleRow, parts, own, none, ◌▸◌, unless, each_from, faults}
use Rattle.datapath.specs.declared.fault.Section.{Section}
use Rattle.datapath.specs.declared.fault.Section.TheVariants as section
use Rattle.datapath.specs.declared.fault.Misfit.{Misfit}
use Rattle.datapath.specs.declared.fault.Misfit.TheVariants as misfit
use Rattle.datapath.specs.declared.fault.PathFault.{PathFault}
use Rattle.datapath.specs.declared.fault.PathFault.TheVariants as fault
use Rattle.datapath.specs.declared.types.Unit as of_unit
use Rattle.operations.specs.declared.units.Kind.{Kind}
use Rattle.operations.specs.declared.units.Kind.TheVariants.{Input}
use Rattle.datapath.specs.Table as row
use Rattle.datapath.specs.Table.{Row, ports, is_ram, is_acu, top_keys, unit_keys, bus_keys, most_entries}
use Rattle.datapath.specs.Reading.{keys_among}
use Rattle.datapath.specs.Names.{unit_named, ram_named, last_dot, ports_at, port_of}
use Rattle.datapath.specs.PathOf.{kind_known, is_known_acu}

-- The values that the rules speak of. Where a value has a fault of its own, another stands for it: its fault
-- comes first.

-- what the table has at the key of the row, judged, if the key is there
abbrev pub judged_at : {A : Type 0} → Row A → Members → Option (Result A Misfit)
judged_at r t = option_map r.value (get_member r.key t)

abbrev pub value_of : {A : Type 0} → Option A → Option (Result A Misfit) → Option A
value_of default None = default
value_of default (Some judged) = result_ok judged

-- the value of the row or its default, or `other`
abbrev pub value_or : {A : Type 0} → A → Row A → Members → A
value_or other r t = unwrap_or (value_of r.default (judged_at r t)) other

abbrev pub name_at : Members → List ℕ
name_at t = value_or [] row.name t

abbrev pub kind_at : Members → Kind
kind_at t = value_or Input row.kind t

-- the unit of a table by its name and its kind, which are all that others ask of it
abbrev pub named_unit : Members → of_unit.Unit
named_unit t =
    record { name = name_at t; kind = kind_at t; latency = 1; gap = 1; files = []; cells = 0; ram = 0 }

abbrev pub to_at : Members → List (List ℕ)
to_at t = value_or [] (row.to most_entries) t

-- The rules of a key.

abbrev pub is_of_kind : {A : Type 0} → Option (Result A Misfit) → Bool
is_of_kind (Some (Err misfit.WrongKind)) = false
is_of_kind _ = true

abbrev pub is_in_range : {A : Type 0} → Option (Result A Misfit) → Bool
is_in_range (Some (Err misfit.Range)) = false
is_in_range _ = true

abbrev pub judged_rules : {A : Type 0} → Section → (default : Option A) → Option (Result A Misfit) → Rules PathFault
judged_rules s default judged =
    parts (
    unless (is_some judged || is_some default) (fault.Missing s)
    ▸ unless (is_of_kind judged) (fault.WrongKind s)
    ▸ unless (is_in_range judged) (fault.Range s)
    ▸ none)

abbrev pub key_rules : {A : Type 0} → Section → Members → Row A → Rules PathFault
key_rules s t r = judged_rules s r.default (judged_at r t)

abbrev pub only_rules : Section → Members → List (List ℕ) → Rules PathFault
only_rules s t names = unless (keys_among names t) (fault.UnknownKey s)

abbrev pub rules_where : Bool → Rules PathFault → Rules PathFault
rules_where true rules = rules
rules_where false rules = parts none

-- the rules of one unit's table, at position k
abbrev pub unit_rules : ℕ → Members → Rules PathFault
unit_rules k t =
    parts (
    only_rules (section.Unit k) t (unit_keys (kind_known t))
    ▸ key_rules (section.Unit k) t row.name
    ▸ key_rules (section.Unit k) t row.kind
    ▸ key_rules (section.Unit k) t row.latency
    ▸ key_rules (section.Unit k) t (row.gap (value_or 1 row.latency t))
    ▸ key_rules (section.Unit k) t (row.files (ports (kind_at t)))
    ▸ rules_where (is_ram (kind_at t)) (key_rules (section.Unit k) t row.cells)
    ▸ rules_where (is_acu (kind_at t)) (key_rules (section.Unit k) t row.ram)
    ▸ none)

-- no earlier one has the name
abbrev pub fresh_rules : Section → (earlier : List (List ℕ)) → List ℕ → Rules PathFault
fresh_rules s earlier name = unless (not (list_any (bytes_eq name) earlier)) (fault.Twice s)

abbrev pub unit_name_rules : List (List ℕ) → ℕ → List ℕ → Rules PathFault
unit_name_rules names k name = fresh_rules (section.Unit k) (take k names) name

-- what an acu's table names is a ram
abbrev pub ram_rules : List of_unit.Unit → ℕ → Members → Rules PathFault
ram_rules units k t =
    rules_where (is_known_acu (kind_known t))
    (unless (is_some (ram_named units (value_or [] row.ram t))) (fault.UnknownUnit (section.Unit k)))

-- a unit that drives a bus: it is there, and the bus names it once
abbrev pub driver_rules : Section → List of_unit.Unit → (from : List (List ℕ)) → ℕ → List ℕ → Rules PathFault
driver_rules s units from j name =
    parts (
    unless (is_some (unit_named units name)) (fault.UnknownUnit s)
    ▸ fresh_rules s (take j from) name
    ▸ none)

-- the texts before and after the last dot
abbrev pub unit_part : List ℕ → List ℕ
unit_part text = (unwrap_or (last_dot text) ([], [])).0

abbrev pub port_part : List ℕ → List ℕ
port_part text = (unwrap_or (last_dot text) ([], [])).1

-- a port that a bus can be written to: it is there, and the bus names it once
abbrev pub sink_rules : Section → List of_unit.Unit → (to : List (List ℕ)) → ℕ → List ℕ → Rules PathFault
sink_rules s units to j text =
    parts (
    unless (is_some (last_dot text)) (fault.UnknownPort s)
    ▸ unless (is_some (unit_named units (unit_part text))) (fault.UnknownUnit s)
    ▸ unless (is_some (port_of (ports_at units (unwrap_or (unit_named units (unit_part text)) 0)) (port_part text)))
    (fault.UnknownPort s)
    ▸ fresh_rules s (take j to) text
    ▸ none)

-- how many `to` entries may still come at bus k
abbrev pub room_at : List Members → ℕ → ℕ
room_at tables k = most_entries - sum_by (λ t. length (to_at t)) (take k tables)

-- the rules of one bus, at position k
abbrev pub bus_rules : List of_unit.Unit → List Members → ℕ → Members → Rules PathFault
bus_rules units tables k t =
    parts (
    only_rules (section.Bus k) t bus_keys
    ▸ key_rules (section.Bus k) t row.name
    ▸ key_rules (section.Bus k) t row.from
    ▸ key_rules (section.Bus k) t (row.to (room_at tables k))
    ▸ fresh_rules (section.Bus k) (map name_at (take k tables)) (name_at t)
    ▸ parts (each_from (driver_rules (section.Bus k) units (value_or [] row.from t)) 0 (value_or [] row.from t))
    ▸ parts (each_from (sink_rules (section.Bus k) units (to_at t)) 0 (to_at t))
    ▸ none)

-- all units, then all their names, then all rams of acus
abbrev pub units_rules : List Members → RuleRow PathFault → RuleRow PathFault
units_rules tables after =
    parts (each_from unit_rules 0 tables)
    ▸ parts (each_from (unit_name_rules (map name_at tables)) 0 (map name_at tables))
    ▸ parts (each_from (ram_rules (map named_unit tables)) 0 tables)
    ▸ after

abbrev pub buses_rules : List of_unit.Unit → List Members → Rules PathFault
buses_rules units tables = parts (each_from (bus_rules units tables) 0 tables)

-- the top table, then the units, then the buses
abbrev pub path_rules : Members → Rules PathFault
path_rules t =
    parts (
    only_rules section.Top t top_keys
    ▸ key_rules section.Top t row.period
    ▸ key_rules section.Top t row.word
    ▸ key_rules section.Top t row.hold
    ▸ key_rules section.Top t row.unit
    ▸ key_rules section.Top t row.bus
    ▸ units_rules (value_or [] row.unit t)
    (buses_rules (map named_unit (value_or [] row.unit t)) (value_or [] row.bus t) ▸ none))

abbrev pub document_rules : Option Members → Rules PathFault
document_rules None = unless false fault.NotToml
document_rules (Some t) = path_rules t

-- the bytes are not too many, they are TOML, and the table keeps its rules
abbrev pub file_rules : List ℕ → Rules PathFault
file_rules bytes =
    own (nat_le (length bytes) (2 ^ 20)) fault.TooLong
    (document_rules (if is_utf8 bytes then parse_document bytes else None) ▸ none)

-- the first fault of the file
abbrev pub IsPathFault : List ℕ → PathFault → Type 0
IsPathFault bytes f = IsFirst (faults (file_rules bytes)) f
