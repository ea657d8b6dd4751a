-- What the names in a file stand for: units and their ports.
use Rattle.std.specs.Prelude.{ℕ, ◌-◌, nat_lt, ◌==◌, List, [], ◌∷◌, Bool, ◌&&◌, Option, Some, None, option_map, position}
use Rattle.std.specs.Prelude.{slice_get, Ok, Err, if◌then◌else◌}
use Rattle.std.specs.List.{list_any}
use Rattle.std.specs.Option.{ok_or}
use Rattle.std.specs.Str.{bytes_eq}
use Rattle.datapath.specs.declared.fault.Section.{Section}
use Rattle.datapath.specs.declared.fault.PathFault.TheVariants.{UnknownUnit, UnknownPort, Twice}
use Rattle.datapath.specs.declared.types.Unit as of_unit
use Rattle.operations.specs.declared.units.PortRef.{PortRef}
use Rattle.datapath.specs.Values.{is_within}
use Rattle.datapath.specs.Table.{ports, is_ram}
use Rattle.datapath.specs.Reading.{Read, ◌>>=◌}

-- a name that none of the earlier ones is
abbrev pub new_name : Section → List (List ℕ) → List ℕ → Read (List ℕ)
new_name s before name = if list_any (bytes_eq name) before then Err (Twice s) else Ok name

-- the position of the unit of the name
abbrev pub unit_named : List of_unit.Unit → List ℕ → Option ℕ
unit_named units name = position (λ unit. bytes_eq name unit.name) units

-- the position of the ram of the name
abbrev pub ram_named : List of_unit.Unit → List ℕ → Option ℕ
ram_named units name = position (λ unit. is_ram unit.kind && bytes_eq name unit.name) units

-- a unit that may drive a bus, which names each once
unfoldable pub driver : Section → List of_unit.Unit → List ℕ → List ℕ → Read ℕ
driver s units before name = do
  unit ← ok_or (unit_named units name) (UnknownUnit s)
  if list_any (λ other. other == unit) before then Err (Twice s) else Ok unit

-- the parts before and after the last dot
abbrev pub before_dot : ℕ → List ℕ → Option (List ℕ × List ℕ) → Option (List ℕ × List ℕ)
before_dot b bs (Some parts) = Some (b ∷ parts.0, parts.1)
before_dot b bs None = if b == 46 then Some ([], bs) else None

abbrev pub last_dot : List ℕ → Option (List ℕ × List ℕ)
last_dot [] = None
last_dot (b ∷ bs) = before_dot b bs (last_dot bs)

-- how many ports the unit at the position has
abbrev pub count_at : Option ℕ → ℕ
count_at (Some n) = n
count_at None = 0

abbrev pub ports_at : List of_unit.Unit → ℕ → ℕ
ports_at units k = count_at (option_map (λ unit. ports unit.kind) (slice_get units k))

-- a port in one digit, of so many ports
abbrev pub port_of : ℕ → List ℕ → Option ℕ
port_of count (b ∷ []) = if is_within 48 57 b && nat_lt (b - 48) count then Some (b - 48) else None
port_of count _ = None

abbrev pub is_port : PortRef → PortRef → Bool
is_port p q = q.unit == p.unit && q.port == p.port

-- a port that a bus may be written to, UNIT.PORT; a bus names each once
unfoldable pub sink : Section → List of_unit.Unit → List PortRef → List ℕ → Read PortRef
sink s units before text = do
  parts ← ok_or (last_dot text) (UnknownPort s)
  unit ← ok_or (unit_named units parts.0) (UnknownUnit s)
  port ← ok_or (port_of (ports_at units unit) parts.1) (UnknownPort s)
  if list_any (is_port (record { unit = unit; port = port })) before then Err (Twice s)
      else Ok (record { unit = unit; port = port })
