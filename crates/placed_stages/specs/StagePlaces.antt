-- Plans over several stages with places that are given: a unit and a cycle for each node. Cycles count from the
-- start of a sample, over all of its stages.
use Rattle.std.specs.Prelude.{◌≡◌, ℕ, ◌*◌, ◌≤◌, List}
use Rattle.datapath.specs.declared.types.Datapath.{Datapath}
use Rattle.signal_graph.specs.declared.graph.Graph.{Graph}
use Rattle.plan_core.specs.Hardware.{gap_on}
use Rattle.plan_core.specs.Assigned.{unit_in}
use Rattle.plan_core.specs.ListSchedule.{IsPlacedOver, IsListScheduleOver}
use Rattle.plan_core.specs.Stages.{IsGapAround, IsSameAround}
use Rattle.plan_core.specs.declared.schedule.Assigned.{Assigned}
use Rattle.plan_core.specs.declared.schedule.Schedule.{Schedule}
use Rattle.placed_plan.specs.Places.{place_of, AreOnGivenUnits}
use Rattle.placed_plan.specs.declared.place.Place.{Place}
use Rattle.overlap_plan.specs.declared.plan.StagePlan.{StagePlan}
use Rattle.overlap_sim.specs.Placed.{IsPlacedStagePlan}

module _ (places : List Place) where
  -- node v is issued in the cycle of its place, on a unit that is free again a period later
  pub record IsAtPlace (d : Datapath) (a : Assigned) (v t : ℕ) : Type 0 where
    pub cycle : t ≡ (place_of places v).cycle
    pub again : gap_on d (unit_in a.units v) ≤ d.period

  abbrev pub AtPlaceAround : Datapath → Assigned → Schedule → (height : ℕ → ℕ) → (v t : ℕ) → Type 0
  AtPlaceAround d a s height v t = IsAtPlace d a v t

  module _ (stages : ℕ) (d : Datapath) (a : Assigned) where
    -- node v stands in the cycle of its place, beside the nodes that are placed before it, in each period
    abbrev pub IsStagePlacedAt : Schedule → (height : ℕ → ℕ) → (v : ℕ) → Type 0
    IsStagePlacedAt s height v =
        IsPlacedOver (IsGapAround d.period) (IsSameAround d.period) (stages * d.period) (AtPlaceAround d a) d a s
        height v

    -- each node does
    abbrev pub IsStageScheduleAt : Schedule → Type 0
    IsStageScheduleAt s =
        IsListScheduleOver (IsGapAround d.period) (IsSameAround d.period) (stages * d.period) (AtPlaceAround d a) d a s

  -- the plan of the graph over so many stages with these places: its buses, lifetimes and registers follow their rules
  pub record IsStagePlanAt (g : Graph) (d : Datapath) (stages : ℕ) (p : StagePlan) : Type 0 where
    pub units : AreOnGivenUnits places d p.assigned
    pub placed : IsPlacedStagePlan (AtPlaceAround d p.assigned) g d stages p
