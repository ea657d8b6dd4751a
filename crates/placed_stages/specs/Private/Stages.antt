-- Whether the nodes of a schedule are in their stages.
use Rattle.std.specs.Prelude.{ℕ, ◌+◌, ◌*◌, ◌<◌, ◌≤◌, length}
use Rattle.datapath.specs.declared.types.Datapath.{Datapath}
use Rattle.plan_core.specs.Heights.{latency_of}
use Rattle.plan_core.specs.ListSchedule.{cycle_of}
use Rattle.plan_core.specs.declared.schedule.Assigned.{Assigned}
use Rattle.plan_core.specs.declared.schedule.Schedule.{Schedule}
use Rattle.overlap_plan.specs.Lines.{LoadsBehind}
use Rattle.overlap_sim.specs.Placed.{IsInItsStages}
use Rattle.placed_stages.specs.StageFaults.{IsFirstUnstaged}
use Rattle.placed_stages.specs.declared.fault.StagePlaceFault.{StagePlaceFault}
use Rattle.placed_stages.specs.declared.fault.StagePlaceFault.TheVariants.{Unstaged}

-- node x is a load that stands behind the store v
abbrev pub LoadsIn : Assigned → (v x ago : ℕ) → Type 0
LoadsIn a v x ago = LoadsBehind a.lowered.nodes v x ago

module _ (stages : ℕ) (d : Datapath) (a : Assigned) (s : Schedule) where
  -- each node ends in the stages
  abbrev pub EndInStages : Type 0
  EndInStages = (v : ℕ) → v < length a.lowered.nodes → cycle_of s v + latency_of d a v ≤ stages * d.period

  abbrev pub IsStaged : (v : ℕ) → Type 0
  IsStaged v = IsInItsStages stages (LoadsIn a) d a s v

  abbrev pub AreStaged : Type 0
  AreStaged = (v : ℕ) → v < length a.lowered.nodes → IsStaged v

  abbrev pub IsOutOfStages : StagePlaceFault → Type 0
  IsOutOfStages (Unstaged v) = IsFirstUnstaged stages (LoadsIn a) d a s v
  IsOutOfStages _ = ⊥
