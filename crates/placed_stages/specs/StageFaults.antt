-- Where a graph has no plan over so many stages with the places that are given.
use Rattle.std.specs.Prelude.{◌≡◌, ℕ, ◌<◌, List, length}
use Rattle.operations.specs.declared.units.PortRef.{PortRef}
use Rattle.datapath.specs.declared.types.Datapath.{Datapath}
use Rattle.signal_graph.specs.declared.graph.Graph.{Graph}
use Rattle.signal_graph.specs.declared.graph.Node.{Node}
use Rattle.plan_core.specs.Hardware.{port_of}
use Rattle.plan_core.specs.Lowered.{IsLoweredOver}
use Rattle.plan_core.specs.Heights.{AreHeights}
use Rattle.plan_core.specs.ListSchedule.{IsEarlier}
use Rattle.plan_core.specs.Stages.{IsLoadOf, AreStageArcs}
use Rattle.plan_core.specs.Arcs.{IsUnroll}
use Rattle.plan_core.specs.Refusals.{IsWithoutRegister}
use Rattle.plan_core.specs.declared.delay_lines.Lowered.{Lowered}
use Rattle.plan_core.specs.declared.schedule.Assigned.{Assigned}
use Rattle.plan_core.specs.declared.schedule.Schedule.{Schedule}
use Rattle.plan_core.specs.declared.registers.Arc.{Arc}
use Rattle.delay_memory.specs.Faults.{IsLineFaultOver}
use Rattle.placed_plan.specs.Places.{place_of, AreOnGivenUnits}
use Rattle.placed_plan.specs.Causes.{IsTooWide, IsOnWrongUnit}
use Rattle.placed_plan.specs.Faults.{IsFirstMisplaced}
use Rattle.placed_plan.specs.declared.place.Place.{Place}
use Rattle.overlap_sim.specs.Placed.{IsInItsStages}
use Rattle.placed_stages.specs.StagePlaces.{IsStagePlacedAt, IsStageScheduleAt}
use Rattle.placed_stages.specs.StageCauses.{IsLate, IsPastStages, IsBusyAround, IsBlockedAround}
use Rattle.placed_stages.specs.declared.fault.StagePlaceFault.{StagePlaceFault}
use Rattle.placed_stages.specs.declared.fault.StagePlaceFault.TheVariants.{Line as Unstored, Missing, Surplus, TooWide}
use Rattle.placed_stages.specs.declared.fault.StagePlaceFault.TheVariants.{WrongUnit, Late, Past, Busy, Blocked}
use Rattle.placed_stages.specs.declared.fault.StagePlaceFault.TheVariants.{Unstaged, FileFull, Memory}

-- each node that is placed before node v stands at its place, and node v cannot, for this cause
module _ (places : List Place) (stages : ℕ) (d : Datapath) (a : Assigned)
    (Cause : Datapath → Assigned → Schedule → (height : ℕ → ℕ) → (v t : ℕ) → Type 0) where
  pub record IsFirstUnplacedOver (v : ℕ) : Type 0 where
    pub height : ℕ → ℕ
    pub heights : AreHeights d a height
    pub there : v < length a.lowered.nodes
    pub schedule : Schedule
    pub before : (x : ℕ) → IsEarlier a height v x → IsStagePlacedAt places stages d a schedule height x
    pub cause : Cause d a schedule height v (place_of places v).cycle

-- node v is the first that is not in its stages
pub record IsFirstUnstaged (stages : ℕ) (Loads : (v x ago : ℕ) → Type 0) (d : Datapath) (a : Assigned) (s : Schedule)
    (v : ℕ) : Type 0 where
  pub there : v < length a.lowered.nodes
  pub before : (u : ℕ) → u < v → IsInItsStages stages Loads d a s u
  pub out : IsInItsStages stages Loads d a s v → ⊥

module _ (g : Graph) (d : Datapath) (stages : ℕ) (places : List Place) where
  -- there are fewer places than nodes
  pub record LacksPlace (v : ℕ) : Type 0 where
    pub lowered : Lowered
    pub is_lowered : IsLoweredOver 0 stages g d lowered
    pub lacks : length places < length lowered.nodes
    pub is : v ≡ length places

  -- there are more
  pub record LacksNode (v : ℕ) : Type 0 where
    pub lowered : Lowered
    pub is_lowered : IsLoweredOver 0 stages g d lowered
    pub lacks : length lowered.nodes < length places
    pub is : v ≡ length lowered.nodes

  -- each node has a place, and this one cannot be on its unit
  pub record HasMisplacedNode (Cause : Datapath → Node → (u : ℕ) → Type 0) (v : ℕ) : Type 0 where
    pub lowered : Lowered
    pub is_lowered : IsLoweredOver 0 stages g d lowered
    pub count : length places ≡ length lowered.nodes
    pub misplaced : IsFirstMisplaced places d lowered Cause v

  -- each node can be on its unit, and this one cannot be issued in its cycle
  pub record HasUnplacedNode (Cause : Datapath → Assigned → Schedule → (height : ℕ → ℕ) → (v t : ℕ) → Type 0)
      (v : ℕ) : Type 0 where
    pub assigned : Assigned
    pub is_lowered : IsLoweredOver 0 stages g d assigned.lowered
    pub units : AreOnGivenUnits places d assigned
    pub unplaced : IsFirstUnplacedOver places stages d assigned Cause v

  -- each node stands at its place, and this one is not in its stages
  pub record HasUnstagedNode (v : ℕ) : Type 0 where
    pub assigned : Assigned
    pub is_lowered : IsLoweredOver 0 stages g d assigned.lowered
    pub units : AreOnGivenUnits places d assigned
    pub schedule : Schedule
    pub is_schedule : IsStageScheduleAt places stages d assigned schedule
    pub unstaged : IsFirstUnstaged stages (IsLoadOf is_lowered.delays) d assigned schedule v

  -- each node is in its stages, and a copy of a lifetime of this one has no register
  pub record HasUnkeptNode (port : PortRef) (v : ℕ) : Type 0 where
    pub assigned : Assigned
    pub is_lowered : IsLoweredOver 0 stages g d assigned.lowered
    pub units : AreOnGivenUnits places d assigned
    pub schedule : Schedule
    pub is_schedule : IsStageScheduleAt places stages d assigned schedule
    pub in_stages : (u : ℕ)
        → u < length assigned.lowered.nodes
        → IsInItsStages stages (IsLoadOf is_lowered.delays) d assigned schedule u
    pub arcs : List Arc
    pub are_arcs : AreStageArcs d assigned schedule arcs
    pub unroll : ℕ
    pub is_unroll : IsUnroll arcs unroll
    pub none : IsWithoutRegister d unroll arcs port v

  -- The fault is that of the first check that fails, and in it of the first node. To be out of memory is none.
  abbrev pub IsStagePlaceFault : StagePlaceFault → Type 0
  IsStagePlaceFault (Unstored fault) = IsLineFaultOver 0 stages g d fault
  IsStagePlaceFault (Missing v) = LacksPlace v
  IsStagePlaceFault (Surplus v) = LacksNode v
  IsStagePlaceFault (TooWide v) = HasMisplacedNode IsTooWide v
  IsStagePlaceFault (WrongUnit v) = HasMisplacedNode IsOnWrongUnit v
  IsStagePlaceFault (Late v) = HasUnplacedNode (IsLate stages) v
  IsStagePlaceFault (Past v) = HasUnplacedNode (IsPastStages stages) v
  IsStagePlaceFault (Busy v) = HasUnplacedNode (IsBusyAround stages) v
  IsStagePlaceFault (Blocked v) = HasUnplacedNode (IsBlockedAround stages) v
  IsStagePlaceFault (FileFull unit port v) = HasUnkeptNode (port_of unit port) v
  IsStagePlaceFault Memory = ⊥
  IsStagePlaceFault (Unstaged v) = HasUnstagedNode v
