-- The reservation table of a schedule: the operations that are placed so far take their units, register files
-- and buses.
use Rattle.std.specs.Prelude.{◌≡◌, ◌≢◌, ℕ, ◌+◌, ◌-◌, ◌<◌, ◌≤◌, ◌⊎◌, All}
use Rattle.operations.specs.declared.units.PortRef.{PortRef}
use Rattle.datapath.specs.declared.types.Datapath.{Datapath}
use Rattle.plan_core.specs.Hardware.{latency_on, gap_on, IsRoute}
use Rattle.plan_core.specs.declared.schedule.Transfer.{Transfer}
use Rattle.plan_core.specs.declared.schedule.Slot.{Slot}

-- the cycle in which the result is there of an operation that unit u is issued at cycle t
abbrev pub result_on : Datapath → (u t : ℕ) → ℕ
result_on d u t = t + (latency_on d u - 1)

-- the rules of a table: which issues of one unit, with this gap, are far enough apart, and which cycles are one for
-- register files and buses
module _ (IsAway : (gap t u : ℕ) → Type 0) (IsSame : (w x : ℕ) → Type 0) (d : Datapath) where
  -- the table: whether a unit is issued an operation in a slot, which has its cycle and its transfers
  module _ (IsTaken : (unit : ℕ) → Slot → Type 0) where
    -- unit u is issued nothing less than its gap from cycle t
    abbrev pub IsUnitFreeOver : (u t : ℕ) → Type 0
    IsUnitFreeOver u t = (slot : Slot) → IsTaken u slot → IsAway (gap_on d u) slot.cycle t

    -- no result is written into the register file of the port in cycle w
    abbrev pub IsFileFreeOver : (w : ℕ) → PortRef → Type 0
    IsFileFreeOver w port =
        (u : ℕ) (slot : Slot) → IsTaken u slot → IsSame (result_on d u slot.cycle) w
        → All (λ (transfer : Transfer). transfer.port ≢ port) slot.transfers

    -- no result is on bus b in cycle w
    abbrev pub IsBusFreeOver : (w b : ℕ) → Type 0
    IsBusFreeOver w b =
        (u : ℕ) (slot : Slot) → IsTaken u slot → IsSame (result_on d u slot.cycle) w
        → All (λ (transfer : Transfer). transfer.bus ≢ b) slot.transfers

    -- bus b can take a result of unit u to the port in cycle w: it is a route, and it is free
    pub record IsFreeRouteOver (u w : ℕ) (port : PortRef) (b : ℕ) : Type 0 where
      pub route : IsRoute d u port b
      pub free : IsBusFreeOver w b

    -- An operation fits on unit u at cycle t: it ends before this cycle, the unit is free, and in the cycle of its
    -- result each destination has a register file that is not written and a bus to it.
    pub record FitsOver (end : ℕ) (IsTo : PortRef → Type 0) (u t : ℕ) : Type 0 where
      pub period : t + latency_on d u ≤ end
      pub unit : IsUnitFreeOver u t
      pub files : (port : PortRef) → IsTo port → IsFileFreeOver (result_on d u t) port
      pub buses : (port : PortRef) → IsTo port → (b : ℕ) × IsFreeRouteOver u (result_on d u t) port b

    -- the transfer of a result of unit u in cycle w goes over the first bus that can take it
    pub record IsFirstBusOver (u w : ℕ) (transfer : Transfer) : Type 0 where
      pub route : IsFreeRouteOver u w transfer.port transfer.bus
      pub first : (b : ℕ) → b < transfer.bus → IsFreeRouteOver u w transfer.port b → ⊥

-- the rules where one sample is in flight at a time
abbrev pub IsGapApart : (gap t u : ℕ) → Type 0
IsGapApart gap t u = (t + gap ≤ u) ⊎ (u + gap ≤ t)

abbrev pub IsOneCycle : (w x : ℕ) → Type 0
IsOneCycle w x = w ≡ x

module _ (d : Datapath) (IsTaken : (unit : ℕ) → Slot → Type 0) where
  abbrev pub IsUnitFree : (u t : ℕ) → Type 0
  IsUnitFree u t = IsUnitFreeOver IsGapApart IsOneCycle d IsTaken u t

  abbrev pub IsFileFree : (w : ℕ) → PortRef → Type 0
  IsFileFree w port = IsFileFreeOver IsGapApart IsOneCycle d IsTaken w port

  abbrev pub IsBusFree : (w b : ℕ) → Type 0
  IsBusFree w b = IsBusFreeOver IsGapApart IsOneCycle d IsTaken w b

  abbrev pub IsFreeRoute : (u w : ℕ) → PortRef → (b : ℕ) → Type 0
  IsFreeRoute u w port b = IsFreeRouteOver IsGapApart IsOneCycle d IsTaken u w port b

  -- it ends in the period
  abbrev pub Fits : (PortRef → Type 0) → (u t : ℕ) → Type 0
  Fits IsTo u t = FitsOver IsGapApart IsOneCycle d IsTaken d.period IsTo u t

  abbrev pub IsFirstBus : (u w : ℕ) → Transfer → Type 0
  IsFirstBus u w transfer = IsFirstBusOver IsGapApart IsOneCycle d IsTaken u w transfer
