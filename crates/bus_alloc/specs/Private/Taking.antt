-- What changes in the rows when an operation is taken, and the buses that it gets.
use Rattle.std.specs.Prelude.{◌≡◌, ◌≢◌, ℕ, ◌+◌, ◌<◌, ◌≤◌, ◌⊎◌, ◌↔◌, List, length}
use Rattle.std.specs.List.{All}
use Rattle.operations.specs.declared.units.PortRef.{PortRef}
use Rattle.plan_core.specs.Stages.{IsGapAround}
use Rattle.plan_core.specs.declared.schedule.Transfer.{Transfer}
use Rattle.bit_sets.specs.Bits.{Has}
use Rattle.bus_alloc.specs.Sets.{mark}
use Rattle.bus_alloc.specs.Private.Rows.{unit_row, file_row, bus_words, IsPortIn}
use Rattle.bus_alloc.specs.declared.rows.Rows.{Rows}

-- bus b is a route from the unit to the port and is free in the cycle
pub record IsRouteFree (rows : Rows) (u : ℕ) (port : PortRef) (cycle b : ℕ) : Type 0 where
  pub number : b < 32
  pub drive : Has (unit_row rows u).drives.bits b
  pub source : Has (file_row rows port).sources.bits b
  pub free : mark (bus_words rows b) cycle ≡ 0

pub record IsFirstRoute (rows : Rows) (u : ℕ) (port : PortRef) (cycle b : ℕ) : Type 0 where
  pub route : IsRouteFree rows u port cycle b
  pub first : (c : ℕ) → c < b → IsRouteFree rows u port cycle c → ⊥

abbrev pub IsFirstTransfer : Rows → (u cycle : ℕ) → Transfer → Type 0
IsFirstTransfer rows u cycle transfer = IsFirstRoute rows u transfer.port cycle transfer.bus

pub record IsTransferIn (rows : Rows) (transfer : Transfer) : Type 0 where
  pub port : IsPortIn rows transfer.port
  pub bus : transfer.bus < 32

-- only the bits of the unit's cycles change
pub record ChangesUnit (old : Rows) (u : ℕ) (new : Rows) : Type 0 where
  pub period : new.period ≡ old.period
  pub files : new.files ≡ old.files
  pub buses : new.buses ≡ old.buses
  pub count : length new.units ≡ length old.units
  pub others : (v : ℕ) → v ≢ u → unit_row new v ≡ unit_row old v
  pub latency : (unit_row new u).latency ≡ (unit_row old u).latency
  pub gap : (unit_row new u).gap ≡ (unit_row old u).gap
  pub drives : (unit_row new u).drives ≡ (unit_row old u).drives

-- the bits of the unit's cycles that are less than its gap away are set
pub record TakesUnit (old : Rows) (u cycle : ℕ) (new : Rows) : Type 0 where
  pub period : new.period ≡ old.period
  pub files : new.files ≡ old.files
  pub buses : new.buses ≡ old.buses
  pub count : length new.units ≡ length old.units
  pub others : (v : ℕ) → v ≢ u → unit_row new v ≡ unit_row old v
  pub latency : (unit_row new u).latency ≡ (unit_row old u).latency
  pub gap : (unit_row new u).gap ≡ (unit_row old u).gap
  pub drives : (unit_row new u).drives ≡ (unit_row old u).drives
  pub near : (w : ℕ)
      → w < 4096
      → w < cycle + (unit_row old u).gap
      → cycle < w + (unit_row old u).gap
      → mark (unit_row new u).busy.words w ≡ 1
  pub far : (w : ℕ)
      → w < 4096
      → (cycle + (unit_row old u).gap ≤ w) ⊎ (w + (unit_row old u).gap ≤ cycle)
      → mark (unit_row new u).busy.words w ≡ mark (unit_row old u).busy.words w

-- the same around the period
pub record TakesUnitAround (old : Rows) (u cycle : ℕ) (new : Rows) : Type 0 where
  pub changes : ChangesUnit old u new
  pub near : (w : ℕ)
      → w < old.period
      → (IsGapAround old.period (unit_row old u).gap cycle w → ⊥)
      → mark (unit_row new u).busy.words w ≡ 1
  pub far : (w : ℕ)
      → w < old.period
      → IsGapAround old.period (unit_row old u).gap cycle w
      → mark (unit_row new u).busy.words w ≡ mark (unit_row old u).busy.words w

-- the bits of the cycle are set for the register file and the bus of the transfer
pub record TakesTransfer (old : Rows) (transfer : Transfer) (cycle : ℕ) (new : Rows) : Type 0 where
  pub period : new.period ≡ old.period
  pub units : new.units ≡ old.units
  pub files : length new.files ≡ length old.files
  pub buses : length new.buses ≡ length old.buses
  pub sources : (port : PortRef) → (file_row new port).sources ≡ (file_row old port).sources
  pub file_here : mark (file_row new transfer.port).written.words cycle ≡ 1
  pub file_else : (port : PortRef) (w : ℕ)
      → IsPortIn old port
      → (port ≢ transfer.port) ⊎ (w ≢ cycle)
      → mark (file_row new port).written.words w ≡ mark (file_row old port).written.words w
  pub bus_here : mark (bus_words new transfer.bus) cycle ≡ 1
  pub bus_else : (b w : ℕ) → (b ≢ transfer.bus) ⊎ (w ≢ cycle) → mark (bus_words new b) w ≡ mark (bus_words old b) w

-- the same for all transfers
pub record TakesTransfers (old : Rows) (transfers : List Transfer) (cycle : ℕ) (new : Rows) : Type 0 where
  pub period : new.period ≡ old.period
  pub units : new.units ≡ old.units
  pub files : length new.files ≡ length old.files
  pub buses : length new.buses ≡ length old.buses
  pub sources : (port : PortRef) → (file_row new port).sources ≡ (file_row old port).sources
  pub written : (port : PortRef) (w : ℕ)
      → IsPortIn old port
      → (mark (file_row new port).written.words w ≡ 0)
      ↔ ((mark (file_row old port).written.words w ≡ 0)
      × (w ≡ cycle → All (λ (transfer : Transfer). transfer.port ≢ port) transfers))
  pub used : (b w : ℕ)
      → (mark (bus_words new b) w ≡ 0)
      ↔ ((mark (bus_words old b) w ≡ 0) × (w ≡ cycle → All (λ (transfer : Transfer). transfer.bus ≢ b) transfers))

-- the unit is taken, and then the transfers
pub record TakesAll (old : Rows) (u cycle : ℕ) (transfers : List Transfer) (new : Rows) : Type 0 where
  pub between : Rows
  pub unit : TakesUnit old u cycle between
  pub transfers_of : TakesTransfers between transfers cycle new

pub record TakesAllAround (old : Rows) (u cycle : ℕ) (transfers : List Transfer) (new : Rows) : Type 0 where
  pub between : Rows
  pub unit : TakesUnitAround old u cycle between
  pub transfers_of : TakesTransfers between transfers cycle new
