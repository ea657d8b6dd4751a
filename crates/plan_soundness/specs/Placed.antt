-- Plans whose units and cycles are chosen by whatever rule.
use Rattle.std.specs.Prelude.{◌≡◌, ℕ, ◌<◌, length}
use Rattle.datapath.specs.declared.types.Datapath.{Datapath}
use Rattle.signal_graph.specs.declared.graph.Graph.{Graph}
use Rattle.plan_core.specs.Hardware.{file_size}
use Rattle.plan_core.specs.Lowered.{IsLowered}
use Rattle.plan_core.specs.Reservations.{IsGapApart, IsOneCycle}
use Rattle.plan_core.specs.ListSchedule.{IsListScheduleOver}
use Rattle.plan_core.specs.Arcs.{IsArcs, IsUnroll}
use Rattle.plan_core.specs.FirstFit.{IsFirstFit}
use Rattle.plan_core.specs.declared.schedule.Schedule.{Schedule}
use Rattle.plan_core.specs.declared.plan.Plan.{Plan}
use Rattle.plan_soundness.specs.Parts.{arc_at, register_at}
use Rattle.plan_soundness.specs.Units.{AreOnRightUnits}

-- Each node is on a right unit, and in the least cycle that is allowed and in which it fits beside those before it. The
-- other parts of the plan follow their rules.
pub record IsPlacedPlan (Allows : Schedule → (height : ℕ → ℕ) → (v t : ℕ) → Type 0) (g : Graph) (d : Datapath)
    (p : Plan) : Type 0 where
  pub lowered : IsLowered g d p.assigned.lowered
  pub assigned : AreOnRightUnits d p.assigned
  pub schedule : IsListScheduleOver IsGapApart IsOneCycle d.period Allows d p.assigned p.schedule
  pub arcs : IsArcs d p.assigned p.schedule p.arcs
  pub unroll : IsUnroll p.arcs p.unroll
  pub registers : IsFirstFit d.period p.unroll p.arcs p.registers.regs
  pub sizes : (k i : ℕ)
      → k < length p.arcs
      → i < (arc_at p k).copies
      → register_at p k i < file_size d (arc_at p k).port
  pub inputs : p.inputs ≡ g.inputs
  pub outs : p.outs ≡ g.outs
