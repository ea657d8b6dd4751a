-- The buses that a result is transferred over.
use Rattle.std.specs.Prelude.{◌≡◌, ℕ, ◌↔◌, List, Contains}
use Rattle.bit_sets.specs.Bits.{Has}
use Rattle.operations.specs.declared.units.PortRef.{PortRef}
use Rattle.plan_core.specs.declared.schedule.Transfer.{Transfer}

-- the bus is one of those
pub record IsBusOf (transfers : List Transfer) (bus : ℕ) : Type 0 where
  pub transfer : Transfer
  pub among : Contains transfers transfer
  pub is : transfer.bus ≡ bus

-- the set has them
abbrev pub AreBusesOf : List Transfer → (set : ℕ) → Type 0
AreBusesOf transfers set = (bus : ℕ) → Has set bus ↔ IsBusOf transfers bus

-- the bus is that of a transfer to the port
pub record IsBusTo (transfers : List Transfer) (port : PortRef) (bus : ℕ) : Type 0 where
  pub transfer : Transfer
  pub among : Contains transfers transfer
  pub port_is : transfer.port ≡ port
  pub bus_is : transfer.bus ≡ bus
