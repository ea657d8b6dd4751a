-- The first nodes on their units.
use Rattle.std.specs.Prelude.{◌≡◌, ℕ, ◌<◌, List, length}
use Rattle.datapath.specs.declared.types.Datapath.{Datapath}
use Rattle.plan_core.specs.Operands.{node_of}
use Rattle.plan_core.specs.Assigned.{unit_in}
use Rattle.plan_core.specs.declared.delay_lines.Lowered.{Lowered}
use Rattle.placed_plan.specs.Places.{place_of, CanBeOn}
use Rattle.placed_plan.specs.Causes.{IsTooWide, IsOnWrongUnit}
use Rattle.placed_plan.specs.Faults.{IsFirstMisplaced}
use Rattle.placed_plan.specs.declared.place.Place.{Place}
use Rattle.placed_plan.specs.declared.fault.PlaceFault.{PlaceFault}
use Rattle.placed_plan.specs.declared.fault.PlaceFault.TheVariants.{Missing, Surplus, TooWide, WrongUnit}

-- places are not as many as nodes
abbrev pub IsMiscounted : (places nodes : ℕ) → PlaceFault → Type 0
IsMiscounted places nodes (Missing v) = (places < nodes) × (v ≡ places)
IsMiscounted places nodes (Surplus v) = (nodes < places) × (v ≡ nodes)
IsMiscounted places nodes _ = ⊥

module _ (places : List Place) (d : Datapath) (l : Lowered) where
  -- these are the units of the first nodes, each of which can be on its own
  pub record AreFirstUnits (units : List ℕ) : Type 0 where
    pub given : (v : ℕ) → v < length units → unit_in units v ≡ (place_of places v).unit
    pub can : (v : ℕ) → v < length units → CanBeOn d (node_of l.nodes v) (place_of places v).unit

  -- node v cannot be on its unit
  abbrev pub IsUnfit : (v : ℕ) → PlaceFault → Type 0
  IsUnfit v (TooWide node) = (node ≡ v) × IsTooWide d (node_of l.nodes v) (place_of places v).unit
  IsUnfit v (WrongUnit node) = (node ≡ v) × IsOnWrongUnit d (node_of l.nodes v) (place_of places v).unit
  IsUnfit v _ = ⊥

  -- it is the first
  abbrev pub IsMisplaced : PlaceFault → Type 0
  IsMisplaced (TooWide v) = IsFirstMisplaced places d l IsTooWide v
  IsMisplaced (WrongUnit v) = IsFirstMisplaced places d l IsOnWrongUnit v
  IsMisplaced _ = ⊥
