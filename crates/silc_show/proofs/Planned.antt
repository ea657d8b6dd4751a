-- A lowered list can be bound to units, a plan can be assembled or guarded, and its lifetimes can get registers anew.
use Rattle.std.proofs.Common.{ℕ, ◌≤◌, sym, subst}
use Rattle.datapath.specs.Allowed.{IsDatapath}
use Rattle.datapath.specs.declared.types.Datapath.{Datapath}
use Rattle.signal_graph.specs.GraphRules.{IsGraph}
use Rattle.signal_graph.specs.declared.graph.Graph.{Graph}
use Rattle.plan_core.specs.Lowered.{IsLowered}
use Rattle.plan_core.specs.declared.delay_lines.Lowered.{Lowered}
use Rattle.plan_core.specs.declared.plan.Plan.{Plan}
use Rattle.plan_core.specs.IsPlan.{IsPlan}
use Rattle.microcode_asm.specs.Planned.{IsPlanned}
use Rattle.unit_assign.specs.Wired.{IsWired}
use Rattle.reg_alloc.specs.Allottable.{AreAllottable}
use Rattle.overlap_plan.specs.IsStagePlan.{IsStagePlan}
use Rattle.plan_soundness.proofs.Units.{on_right_units}
use Rattle.overlap_plan.specs.StagePlanned.{IsStagePlanned}
use Rattle.overlap_plan.specs.declared.plan.StagePlan.{StagePlan}
use Rattle.planner.proofs.Asked.{wired, allottable}

pub lowered_wired : (g : Graph) (d : Datapath) (l : Lowered) → IsGraph g → IsLowered g d l → IsWired l
lowered_wired g d l sound low = wired g d sound l low

pub planned : (g : Graph) (d : Datapath) (p : Plan) → IsGraph g → IsPlan g d p → IsPlanned d p
planned g d p sound plan = record { graph = g; sound = sound; plan = plan }

pub lifetimes_allottable : (d : Datapath) (p : Plan) → IsDatapath d → IsPlanned d p → AreAllottable d p.arcs
lifetimes_allottable d p allowed planned =
    let plan = planned.plan in
    allottable planned.graph d planned.sound p.assigned plan.lowered allowed (on_right_units plan.assigned) p.schedule
    plan.schedule p.arcs plan.arcs

-- a plan of at least one stage and of four at most has a guarded image
pub stage_planned : (g : Graph) (d : Datapath) (stages : ℕ) (p : StagePlan)
    → IsGraph g
    → 1 ≤ stages
    → stages ≤ 4
    → IsStagePlan g d stages p
    → IsStagePlanned d p
stage_planned g d stages p sound some few plan = record {
  graph = g;
  sound = sound;
  some = subst (λ n. 1 ≤ n) (sym plan.stages_are) some;
  few = subst (λ n. n ≤ 4) (sym plan.stages_are) few;
  plan = subst (λ n. IsStagePlan g d n p) (sym plan.stages_are) plan;
}
