-- A schedule over several stages is one by any way to tell which load reads the word of which store.
use Rattle.std.proofs.Common.{ℕ, ◌*◌}
use Rattle.datapath.specs.declared.types.Datapath.{Datapath}
use Rattle.plan_core.specs.Stages.{IsInStage, CanIssueInStage, IsPlacedInStage, IsStageScheduleOver, IsWithoutStageOver}
use Rattle.plan_core.specs.declared.schedule.Assigned.{Assigned}
use Rattle.plan_core.specs.declared.schedule.Schedule.{Schedule}

module _ (stages : ℕ) (Loads Others : (v x ago : ℕ) → Type 0) (to : (v x ago : ℕ) → Loads v x ago → Others v x ago)
    (of : (v x ago : ℕ) → Others v x ago → Loads v x ago) (d : Datapath) (a : Assigned) where
  in_stage_to : (s : Schedule) (h : ℕ → ℕ) (v t : ℕ)
      → IsInStage stages Loads d a s h v t
      → IsInStage stages Others d a s h v t
  in_stage_to s h v t is = record {
    again = is.again;
    input = is.input;
    output = is.output;
    stores = λ x ago loads. is.stores x ago (of v x ago loads);
    loads = λ x ago loads. is.loads x ago (of x v ago loads);
  }

  in_stage_of : (s : Schedule) (h : ℕ → ℕ) (v t : ℕ)
      → IsInStage stages Others d a s h v t
      → IsInStage stages Loads d a s h v t
  in_stage_of s h v t is = record {
    again = is.again;
    input = is.input;
    output = is.output;
    stores = λ x ago loads. is.stores x ago (to v x ago loads);
    loads = λ x ago loads. is.loads x ago (to x v ago loads);
  }

  can_to : (s : Schedule) (h : ℕ → ℕ) (v t : ℕ)
      → CanIssueInStage stages Loads d a s h v t
      → CanIssueInStage stages Others d a s h v t
  can_to s h v t can =
      record { operands = can.operands; fits = can.fits; allows = in_stage_to s h v t can.allows }

  can_of : (s : Schedule) (h : ℕ → ℕ) (v t : ℕ)
      → CanIssueInStage stages Others d a s h v t
      → CanIssueInStage stages Loads d a s h v t
  can_of s h v t can =
      record { operands = can.operands; fits = can.fits; allows = in_stage_of s h v t can.allows }

  placed_to : (s : Schedule) (h : ℕ → ℕ) (v : ℕ)
      → IsPlacedInStage stages Loads d a s h v
      → IsPlacedInStage stages Others d a s h v
  placed_to s h v is = record {
    can = can_to s h v _ is.can;
    least = λ t less can. is.least t less (can_of s h v t can);
    destinations = is.destinations;
    buses = is.buses;
  }

  pub schedule_to : (s : Schedule) → IsStageScheduleOver stages Loads d a s → IsStageScheduleOver stages Others d a s
  schedule_to s is = record {
    height = is.height;
    heights = is.heights;
    count = is.count;
    placed = λ v there. placed_to s is.height v (is.placed v there);
  }

  pub without_to : (v : ℕ) → IsWithoutStageOver stages Loads d a v → IsWithoutStageOver stages Others d a v
  without_to v is = record {
    height = is.height;
    heights = is.heights;
    there = is.there;
    schedule = is.schedule;
    before = λ u earlier. placed_to is.schedule is.height u (is.before u earlier);
    none = λ t can. is.none t (can_of is.schedule is.height v t can);
  }
