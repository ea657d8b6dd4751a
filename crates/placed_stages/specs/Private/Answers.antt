-- What is promised of an answer.
use Rattle.std.specs.Prelude.{◌≡◌, ◌⊎◌, ℕ, List, Result, Ok, Err, IfOk, IfErr}
use Rattle.datapath.specs.declared.types.Datapath.{Datapath}
use Rattle.signal_graph.specs.declared.graph.Graph.{Graph}
use Rattle.overlap_plan.specs.declared.plan.StagePlan.{StagePlan}
use Rattle.placed_plan.specs.declared.place.Place.{Place}
use Rattle.placed_stages.specs.StagePlaces.{IsStagePlanAt}
use Rattle.placed_stages.specs.StageFaults.{IsStagePlaceFault}
use Rattle.placed_stages.specs.declared.fault.StagePlaceFault.{StagePlaceFault}
use Rattle.placed_stages.specs.declared.fault.StagePlaceFault.TheVariants.{Memory}

-- it is the one plan, or the first fault, or memory ran out
pub record IsAnswer (g : Graph) (d : Datapath) (stages : ℕ) (places : List Place)
    (result : Result StagePlan StagePlaceFault) : Type 0 where
  pub plan : IfOk result (IsStagePlanAt places g d stages)
  pub fault :
      IfErr result (λ (fault : StagePlaceFault). (fault ≡ Memory) ⊎ IsStagePlaceFault g d stages places fault)
  pub found : (p : StagePlan) → IsStagePlanAt places g d stages p → (result ≡ Ok p) ⊎ (result ≡ Err Memory)
  pub refused : (f : StagePlaceFault)
      → IsStagePlaceFault g d stages places f
      → (result ≡ Err f) ⊎ (result ≡ Err Memory)
