-- What `silc_place pipe SRC DP PLAN S SAMPLES OUT` runs and leaves.
use Rattle.std.specs.Prelude.{ℕ, ◌≤◌, List, length}
use Rattle.cycle_sim.specs.Machine.{Snapshot}
use Rattle.datapath.specs.declared.types.Datapath.{Datapath}
use Rattle.desk_core.specs.View.{Name, View}
use Rattle.desk_core.specs.Desk.{WhereSpecified, content_of}
use Rattle.front_end.specs.GraphOf.{IsProgramGraph}
use Rattle.signal_graph.specs.declared.graph.Graph.{Graph}
use Rattle.silage_syntax.specs.Tree.{Program}
use Rattle.plan_soundness.specs.Units.{IsRouted}
use Rattle.placed_plan.specs.Places.{IsGiven, IsNarrow}
use Rattle.placed_plan.specs.declared.place.Place.{Place}
use Rattle.place_file.specs.Given.{GivesPlaces}
use Rattle.overlap_plan.specs.IsStagePlan.{plan_of}
use Rattle.overlap_plan.specs.declared.plan.StagePlan.{StagePlan}
use Rattle.overlap_sim.specs.GuardedOf.{IsGuardedOf}
use Rattle.overlap_sim.specs.declared.guarded.Guarded.{Guarded}
use Rattle.placed_stages.specs.StagePlaces.{IsStagePlanAt}
use Rattle.plan_commands.specs.Plans.{IsPlannedOverBy}
use Rattle.run_command.specs.Run.{HasPlanInBy}
use Rattle.sample_commands.specs.Eval.{IsEvalDoneBy}
use Rattle.silc_files.specs.Limits.{text_limit}
use Rattle.stage_commands.specs.Pipe.{staged_out, HasGuardedRun}

-- a plan over several stages, and the places that are given for it
pub record PlacedPlan : Type 0 where
  pub places : List Place
  pub plan : StagePlan

module _ (stages : ℕ) where
  -- the graph has the plan over the datapath, with these places
  abbrev pub IsPlacedPlanOf : Graph → Datapath → PlacedPlan → Type 0
  IsPlacedPlanOf g d p = IsStagePlanAt p.places g d stages p.plan

  -- The source has this program and no other, the file describes this datapath, and the program's graph has the plan
  -- over it. In the plan each node stands where its line of the text says, and the text has no other lines that begin
  -- with `node`, and not too many bytes.
  pub record IsPlacedOver (text : List ℕ) (source datapath : List ℕ) (program : Program) (d : Datapath)
      (p : PlacedPlan) : Type 0 where
    pub planned : IsPlannedOverBy IsProgramGraph IsPlacedPlanOf source datapath program d p
    pub within : length text ≤ text_limit
    pub gives : GivesPlaces d text p.places

-- OUT has the output rows of the one solution of SRC's program over the stream of SAMPLES, all but one of the stages
-- late. The guarded image of the plan of the program over DP's datapath with the places that PLAN gives ran this stream
-- to its end and put these rows; the machine is the one that ran it.
pub record IsPlacePiped (stages : ℕ) (src datapath plan samples out : Name) (machine : Snapshot) (old new : View)
    : Type 0 where
  pub solved : IsEvalDoneBy (staged_out stages) src samples out old new
  pub path : Datapath
  pub placed : PlacedPlan
  pub planned :
      WhereSpecified old (λ files.
      HasPlanInBy (IsPlacedOver stages (content_of (files plan))) src datapath solved.program path placed files)
  pub given : IsGiven placed.places (plan_of placed.plan)
  pub routed : IsRouted path (plan_of placed.plan)
  pub narrow : IsNarrow path (plan_of placed.plan)
  pub guarded : Guarded
  pub guarded_of : IsGuardedOf stages path (plan_of placed.plan) guarded
  pub ran : HasGuardedRun guarded solved.stream machine solved.text
