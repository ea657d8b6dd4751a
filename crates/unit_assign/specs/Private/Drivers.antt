-- For each port of each unit, the units from which a bus leads to it.
use Rattle.std.specs.Prelude.{◌≡◌, ℕ, ◌+◌, ◌*◌, ◌<◌, ◌↔◌, ◌⊎◌, List, length, slice_index_or, Contains}
use Rattle.operations.specs.declared.units.PortRef.{PortRef}
use Rattle.datapath.specs.declared.types.Datapath.{Datapath}
use Rattle.plan_core.specs.Hardware.{port_of, no_bus, HasRoute}
use Rattle.unit_assign.specs.Private.UnitSets.{Has, set_at}
use Rattle.bit_sets.specs.declared.set32.Set32.{Set32}

-- the most ports and units that there are
abbrev pub most_ports : ℕ
most_ports = 3

abbrev pub most_units : ℕ
most_units = 32

-- where the set of a port is
abbrev pub place : (unit port : ℕ) → ℕ
place unit port = unit * most_ports + port

-- x is one of the first n elements
abbrev pub Among : {X : Type 0} → List X → ℕ → X → Type 0
Among xs n x = (k : ℕ) × (k < n) × (slice_index_or xs k x ≡ x)

-- one of the first n buses leads from unit u to the port
abbrev pub HasRouteBefore : Datapath → ℕ → (u : ℕ) → PortRef → Type 0
HasRouteBefore d n u port =
    (b : ℕ) × (b < n) × Contains (slice_index_or d.buses b no_bus).from u
    × Contains (slice_index_or d.buses b no_bus).to port

-- a set for each port, which has the units from which one of the first n buses leads to it
pub record AreDriversBefore (d : Datapath) (n : ℕ) (sets : List Set32) : Type 0 where
  pub count : length sets ≡ length d.units * most_ports
  pub drivers : (unit port u : ℕ)
      → unit < length d.units
      → port < most_ports
      → Has (set_at sets (place unit port)) u ↔ HasRouteBefore d n u (port_of unit port)

-- a set for each port, which has the units from which a bus leads to it
pub record AreDrivers (d : Datapath) (sets : List Set32) : Type 0 where
  pub count : length sets ≡ length d.units * most_ports
  pub drivers : (unit port u : ℕ)
      → unit < length d.units
      → port < most_ports
      → Has (set_at sets (place unit port)) u ↔ HasRoute d u (port_of unit port)

-- to the sets of these ports, units were added
pub record IsAddedTo (units : Set32) (ports : List PortRef) (n : ℕ) (old new : List Set32) : Type 0 where
  pub count : length new ≡ length old
  pub sets : (unit port u : ℕ)
      → place unit port < length old
      → port < most_ports
      → Has (set_at new (place unit port)) u
      ↔ (Has (set_at old (place unit port)) u ⊎ (Among ports n (port_of unit port) × Has units u))

-- the port has a place in a list of so many
pub record HasPlace (count : ℕ) (port : PortRef) : Type 0 where
  pub number : port.port < most_ports
  pub within : place port.unit port.port < count
