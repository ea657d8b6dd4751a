-- Sets of ports, as bits.
use Rattle.std.specs.Prelude.{ℕ, ◌+◌, ◌*◌, ◌/◌, ◌%◌, ◌<◌, List, All, Contains}
use Rattle.std.specs.List.{AllPairs}
use Rattle.operations.specs.declared.units.PortRef.{PortRef}
use Rattle.bit_sets.specs.Bits.{Has}
use Rattle.plan_core.specs.Hardware.{port_of}
use Rattle.plan_core.specs.ListSchedule.{IsPortBefore}

-- the most ports that a unit has
abbrev pub most_ports : ℕ
most_ports = 3

-- the number of a port, and the port of a number
abbrev pub place : (unit port : ℕ) → ℕ
place unit port = unit * most_ports + port

abbrev pub port_in : ℕ → PortRef
port_in k = port_of (k / most_ports) (k % most_ports)

-- the port is in the set
pub record IsPortOf (set : ℕ) (port : PortRef) : Type 0 where
  pub number : port.port < most_ports
  pub there : Has set (place port.unit port.port)

-- the ports of the set, each once, in order
pub record ArePortsOf (set : ℕ) (ports : List PortRef) : Type 0 where
  pub order : AllPairs IsPortBefore ports
  pub each : All (IsPortOf set) ports
  pub every : (k : ℕ) → Has set k → Contains ports (port_in k)
