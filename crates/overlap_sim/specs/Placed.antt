-- Plans over several stages whose units and cycles are chosen by whatever rule.
use Rattle.std.specs.Prelude.{◌≡◌, ℕ, ◌+◌, ◌-◌, ◌*◌, ◌<◌, ◌≤◌, length}
use Rattle.fix_word.specs.declared.operation.Op.{Op}
use Rattle.fix_word.specs.declared.operation.Op.TheVariants as op
use Rattle.datapath.specs.declared.types.Datapath.{Datapath}
use Rattle.signal_graph.specs.declared.graph.Graph.{Graph}
use Rattle.plan_core.specs.Hardware.{gap_on, file_size}
use Rattle.plan_core.specs.Operands.{node_of}
use Rattle.plan_core.specs.Lowered.{IsLoweredOver}
use Rattle.plan_core.specs.Assigned.{unit_in}
use Rattle.plan_core.specs.Heights.{latency_of}
use Rattle.plan_core.specs.ListSchedule.{cycle_of, IsListScheduleOver}
use Rattle.plan_core.specs.Stages.{IsGapAround, IsSameAround, IsLoadOf, AreStageArcs}
use Rattle.plan_core.specs.Arcs.{arc_of, IsUnroll}
use Rattle.plan_core.specs.FirstFit.{register_of, IsFirstFit}
use Rattle.plan_core.specs.declared.schedule.Assigned.{Assigned}
use Rattle.plan_core.specs.declared.schedule.Schedule.{Schedule}
use Rattle.plan_soundness.specs.Units.{AreOnRightUnits}
use Rattle.overlap_plan.specs.declared.plan.StagePlan.{StagePlan}

-- where node x loads what node v stores so many samples later
module _ (stages : ℕ) (Loads : (v x ago : ℕ) → Type 0) (d : Datapath) (a : Assigned) (s : Schedule) (v : ℕ) where
  abbrev op_is : Op → Type 0
  op_is o = (node_of a.lowered.nodes v).op ≡ o

  -- Node v is in its stages: an input is issued in the first one, an output ends in the last one, and a store ends
  -- before its word is loaded.
  pub record IsInItsStages : Type 0 where
    pub input : op_is op.Input → cycle_of s v < d.period
    pub output : op_is op.Output → (stages - 1) * d.period < cycle_of s v + latency_of d a v
    pub stores : (x ago : ℕ) → Loads v x ago → cycle_of s v + latency_of d a v ≤ cycle_of s x + ago * d.period

-- Each node is on a right unit, which is free again a period later, in its stages, and in the least cycle that is
-- allowed and in which it fits beside those before it. The other parts of the plan follow their rules.
pub record IsPlacedStagePlan (Allows : Schedule → (height : ℕ → ℕ) → (v t : ℕ) → Type 0) (g : Graph) (d : Datapath)
    (stages : ℕ) (p : StagePlan) : Type 0 where
  pub lowered : IsLoweredOver 0 stages g d p.assigned.lowered
  pub assigned : AreOnRightUnits d p.assigned
  pub schedule :
      IsListScheduleOver (IsGapAround d.period) (IsSameAround d.period) (stages * d.period) Allows d p.assigned
      p.schedule
  pub again : (v : ℕ) → v < length p.assigned.lowered.nodes → gap_on d (unit_in p.assigned.units v) ≤ d.period
  pub in_stages : (v : ℕ)
      → v < length p.assigned.lowered.nodes
      → IsInItsStages stages (IsLoadOf lowered.delays) d p.assigned p.schedule v
  pub arcs : AreStageArcs d p.assigned p.schedule p.arcs
  pub unroll : IsUnroll p.arcs p.unroll
  pub registers : IsFirstFit d.period p.unroll p.arcs p.registers.regs
  pub sizes : (k i : ℕ)
      → k < length p.arcs
      → i < (arc_of p.arcs k).copies
      → register_of p.registers.regs k i < file_size d (arc_of p.arcs k).port
  pub stages_are : p.stages ≡ stages
  pub inputs : p.inputs ≡ g.inputs
  pub outs : p.outs ≡ g.outs
