-- Places that are as many as the nodes, and nodes on their units.
use Rattle.std.specs.Prelude.{◌≡◌, ◌⊎◌, ℕ, ◌<◌, List, length}
use Rattle.datapath.specs.declared.types.Datapath.{Datapath}
use Rattle.plan_core.specs.Operands.{node_of}
use Rattle.plan_core.specs.declared.delay_lines.Lowered.{Lowered}
use Rattle.plan_core.specs.declared.schedule.Assigned.{Assigned}
use Rattle.placed_plan.specs.Places.{place_of}
use Rattle.placed_plan.specs.Causes.{IsTooWide, IsOnWrongUnit}
use Rattle.placed_plan.specs.Faults.{IsFirstMisplaced}
use Rattle.placed_plan.specs.declared.place.Place.{Place}
use Rattle.placed_stages.specs.declared.fault.StagePlaceFault.{StagePlaceFault}
use Rattle.placed_stages.specs.declared.fault.StagePlaceFault.TheVariants.{Missing, Surplus, TooWide, WrongUnit}

-- places are not as many as nodes
abbrev pub IsMiscounted : (places nodes : ℕ) → StagePlaceFault → Type 0
IsMiscounted places nodes (Missing v) = (places < nodes) × (v ≡ places)
IsMiscounted places nodes (Surplus v) = (nodes < places) × (v ≡ nodes)
IsMiscounted places nodes _ = ⊥

module _ (places : List Place) (d : Datapath) (l : Lowered) where
  -- node v cannot be on its unit
  abbrev pub IsUnfit : (v : ℕ) → StagePlaceFault → Type 0
  IsUnfit v (TooWide node) = (node ≡ v) × IsTooWide d (node_of l.nodes v) (place_of places v).unit
  IsUnfit v (WrongUnit node) = (node ≡ v) × IsOnWrongUnit d (node_of l.nodes v) (place_of places v).unit
  IsUnfit v _ = ⊥

  -- it is the first
  abbrev pub IsMisplaced : StagePlaceFault → Type 0
  IsMisplaced (TooWide v) = IsFirstMisplaced places d l IsTooWide v
  IsMisplaced (WrongUnit v) = IsFirstMisplaced places d l IsOnWrongUnit v
  IsMisplaced _ = ⊥

  -- there is not one place for each node, or a node cannot be on its unit
  abbrev pub IsUngiven : StagePlaceFault → Type 0
  IsUngiven fault =
      IsMiscounted (length places) (length l.nodes) fault
      ⊎ ((length places ≡ length l.nodes) × IsMisplaced fault)

-- nodes with these units
abbrev pub bound : Lowered → List ℕ → Assigned
bound l units = record { lowered = l; units = units }
