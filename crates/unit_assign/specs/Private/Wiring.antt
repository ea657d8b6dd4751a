-- What is looked up of a datapath for each node.
use Rattle.std.specs.Prelude.{◌≡◌, ℕ, ◌*◌, ◌<◌, ◌≤◌, ◌↔◌, List, length}
use Rattle.datapath.specs.declared.types.Datapath.{Datapath}
use Rattle.plan_core.specs.Hardware.{port_of, HasRoute}
use Rattle.plan_core.specs.declared.delay_lines.Lowered.{Lowered}
use Rattle.unit_assign.specs.Wired.{IsWired}
use Rattle.unit_assign.specs.Private.UnitSets.{Has, set_at}
use Rattle.unit_assign.specs.Private.Kinds.{AreKinds}
use Rattle.unit_assign.specs.Private.Drivers.{most_ports, most_units, place, AreDrivers}
use Rattle.bit_sets.specs.declared.set32.Set32.{Set32}
use Rattle.unit_assign.specs.declared.wiring.Wiring.{Wiring}

-- for the first n of the pairs of a unit and the number of a port, the units to whose port a bus leads from the unit
pub record AreTakers (d : Datapath) (n : ℕ) (sets : List Set32) : Type 0 where
  pub count : length sets ≡ n
  pub takers : (unit port u : ℕ)
      → place unit port < n
      → port < most_ports
      → Has (set_at sets (place unit port)) u ↔ ((u < length d.units) × HasRoute d unit (port_of u port))

-- the units of each kind, and the routes between units
pub record IsWiring (d : Datapath) (wiring : Wiring) : Type 0 where
  pub few : length d.units ≤ most_units
  pub kinds : AreKinds d wiring.kinds
  pub routes : AreDrivers d wiring.drivers
  pub takers : AreTakers d (length d.units * most_ports) wiring.takers

-- a graph that is bound to the units of a datapath
pub record IsProblem (d : Datapath) (l : Lowered) (wiring : Wiring) : Type 0 where
  pub wired : IsWired l
  pub wiring_is : IsWiring d wiring
