-- The placing of nodes at places that are given.
use Rattle.std.specs.Prelude.{◌≡◌, ◌≢◌, ◌⊎◌, ℕ, ◌+◌, ◌<◌, ◌≤◌, List, [], ◌∷◌, All, length, slice_index_or}
use Rattle.operations.specs.declared.units.PortRef.{PortRef}
use Rattle.datapath.specs.declared.types.Datapath.{Datapath}
use Rattle.plan_core.specs.Hardware.{port_of}
use Rattle.plan_core.specs.Assigned.{unit_in}
use Rattle.plan_core.specs.Heights.{latency_of}
use Rattle.plan_core.specs.Reservations.{result_on, IsGapApart, IsOneCycle}
use Rattle.plan_core.specs.ListSchedule.{AreDestinations}
use Rattle.plan_core.specs.declared.schedule.Assigned.{Assigned}
use Rattle.plan_core.specs.declared.schedule.Transfer.{Transfer}
use Rattle.plan_core.specs.declared.schedule.Slot.{Slot}
use Rattle.bus_alloc.specs.Table.{FitsAtOver}
use Rattle.schedule_priority.specs.Order.{nth}
use Rattle.list_schedule.specs.Placing.{slot_at, of_slots, IsReadyAt, HasTableOf, PlacesOver, ArePlacedOver}
use Rattle.placed_plan.specs.Places.{place_of, AtPlace}
use Rattle.placed_plan.specs.Causes.{IsFirstLate, IsLate, IsPast, IsBusy, IsFileWritten, IsBusless}
use Rattle.placed_plan.specs.Faults.{IsFirstUnplaced}
use Rattle.placed_plan.specs.declared.place.Place.{Place}
use Rattle.placed_plan.specs.declared.placing.Placing.{Placing}
use Rattle.placed_plan.specs.declared.fault.PlaceFault.{PlaceFault}
use Rattle.placed_plan.specs.declared.fault.PlaceFault.TheVariants.{Late, Past, Busy, FileWritten, NoBus}

-- each is the number of a node
abbrev pub AreNodes : Assigned → List ℕ → Type 0
AreNodes a nodes = (j : ℕ) → j < length nodes → nth nodes j < length a.lowered.nodes

module _ (d : Datapath) (a : Assigned) where
  abbrev pub HasTable : Placing → Type 0
  HasTable p = HasTableOf d a p.slots p.table

  -- node v fits beside the nodes that are placed, at cycle t, with its result going to these ports
  abbrev pub Fits : Placing → (v t : ℕ) → List PortRef → Type 0
  Fits p v t ports = FitsAtOver IsGapApart IsOneCycle d.period p.table (unit_in a.units v) t ports

  -- the operands of node v are there at cycle t, and it ends in the period
  pub record IsInTime (p : Placing) (v t : ℕ) : Type 0 where
    pub ready : IsReadyAt d a p.slots v t
    pub ends : t + latency_of d a v ≤ d.period

  -- no result of these nodes is written into the register file of the port in cycle w
  abbrev pub IsFileFreeOf : List Slot → (nodes : List ℕ) → (w : ℕ) → PortRef → Type 0
  IsFileFreeOf slots nodes w port =
      (j : ℕ)
      → j < length nodes
      → result_on d (unit_in a.units (nth nodes j)) (slot_at slots (nth nodes j)).cycle ≡ w
      → All (λ (transfer : Transfer). transfer.port ≢ port) (slot_at slots (nth nodes j)).transfers

  -- why node v cannot be issued at cycle t, where these nodes are placed and these ports read it
  module _ (p : Placing) (placed : List ℕ) (v t : ℕ) where
    pub record IsEndless : Type 0 where
      pub ready : IsReadyAt d a p.slots v t
      pub past : d.period < t + latency_of d a v

    pub record IsUnitBusy : Type 0 where
      pub in_time : IsInTime p v t
      pub busy : Fits p v t [] → ⊥

    abbrev HasNoWriter : PortRef → Type 0
    HasNoWriter port = IsFileFreeOf p.slots placed (result_on d (unit_in a.units v) t) port

    -- why its result can't be transferred to the port
    abbrev pub IsBlockade : PortRef → PlaceFault → Type 0
    IsBlockade at (FileWritten unit port node) = (node ≡ v) × (port_of unit port ≡ at) × (HasNoWriter at → ⊥)
    IsBlockade at (NoBus unit port node) = (node ≡ v) × (port_of unit port ≡ at) × HasNoWriter at
    IsBlockade at _ = ⊥

    module _ (ports : List PortRef) where
      -- its unit is free, and this port is the first to which its result can't be transferred
      pub record IsShut (fault : PlaceFault) : Type 0 where
        pub in_time : IsInTime p v t
        pub free : Fits p v t []
        pub port : PortRef
        pub index : ℕ
        pub there : index < length ports
        pub is : slice_index_or ports index port ≡ port
        pub before : (j : ℕ) → j < index → Fits p v t (slice_index_or ports j port ∷ [])
        pub shut : Fits p v t (port ∷ []) → ⊥
        pub why : IsBlockade port fault

      -- it cannot be on its unit then
      abbrev pub IsUntimely : PlaceFault → Type 0
      IsUntimely (Late node x from) = (node ≡ v) × IsFirstLate x from d a (of_slots p.slots) v t
      IsUntimely (Past node) = (node ≡ v) × IsEndless
      IsUntimely (Busy node) = (node ≡ v) × IsUnitBusy
      IsUntimely _ = ⊥

      abbrev pub IsObstacle : PlaceFault → Type 0
      IsObstacle fault = IsUntimely fault ⊎ IsShut fault

module _ (places : List Place) (d : Datapath) (a : Assigned) where
  -- a node is issued in the cycle of its place, whatever the slots are
  abbrev pub MayAt : List Slot → (v t : ℕ) → Type 0
  MayAt slots v t = t ≡ (place_of places v).cycle

  abbrev pub Places : (v : ℕ) → (old new : Placing) → Type 0
  Places v old new =
      PlacesOver IsGapApart IsOneCycle d.period MayAt d a v old.slots old.table new.slots new.table

  abbrev pub ArePlaced : (order : List ℕ) (k : ℕ) → Placing → Type 0
  ArePlaced order k p = ArePlacedOver IsGapApart IsOneCycle d.period (AtPlace places) d a order k p.slots p.table

  -- node v cannot be issued in the cycle of its place
  pub record IsStopped (p : Placing) (placed : List ℕ) (v : ℕ) (fault : PlaceFault) : Type 0 where
    pub ports : List PortRef
    pub destinations : AreDestinations a v ports
    pub obstacle : IsObstacle d a p placed v (place_of places v).cycle ports fault

  -- the first node that cannot
  abbrev pub IsUnplaced : PlaceFault → Type 0
  IsUnplaced (Late v x from) = IsFirstUnplaced places d a (IsLate x from) v
  IsUnplaced (Past v) = IsFirstUnplaced places d a IsPast v
  IsUnplaced (Busy v) = IsFirstUnplaced places d a IsBusy v
  IsUnplaced (FileWritten unit port v) = IsFirstUnplaced places d a (IsFileWritten (port_of unit port)) v
  IsUnplaced (NoBus unit port v) = IsFirstUnplaced places d a (IsBusless (port_of unit port)) v
  IsUnplaced _ = ⊥
