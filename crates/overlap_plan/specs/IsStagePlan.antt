-- A plan of a graph on a datapath over several stages.
use Rattle.std.specs.Prelude.{◌≡◌, ℕ, ◌<◌, length}
use Rattle.datapath.specs.declared.types.Datapath.{Datapath}
use Rattle.signal_graph.specs.declared.graph.Graph.{Graph}
use Rattle.plan_core.specs.Hardware.{file_size}
use Rattle.plan_core.specs.Lowered.{IsLoweredOver}
use Rattle.plan_core.specs.Assigned.{IsAssigned}
use Rattle.plan_core.specs.Stages.{IsStageSchedule, AreStageArcs}
use Rattle.plan_core.specs.Arcs.{arc_of, IsUnroll}
use Rattle.plan_core.specs.FirstFit.{register_of, IsFirstFit}
use Rattle.plan_core.specs.declared.plan.Plan.{Plan}
use Rattle.overlap_plan.specs.declared.plan.StagePlan.{StagePlan}

-- The plan is the graph's: each of its parts follows its rule. Each delay is in memory, and a line has a cell for each
-- sample in flight beyond its longest delay.
pub record IsStagePlan (g : Graph) (d : Datapath) (stages : ℕ) (p : StagePlan) : Type 0 where
  pub lowered : IsLoweredOver 0 stages g d p.assigned.lowered
  pub assigned : IsAssigned d p.assigned
  pub schedule : IsStageSchedule stages lowered.delays d p.assigned p.schedule
  pub arcs : AreStageArcs d p.assigned p.schedule p.arcs
  pub unroll : IsUnroll p.arcs p.unroll
  pub registers : IsFirstFit d.period p.unroll p.arcs p.registers.regs
  -- each register is in its file
  pub sizes : (k i : ℕ)
      → k < length p.arcs
      → i < (arc_of p.arcs k).copies
      → register_of p.registers.regs k i < file_size d (arc_of p.arcs k).port
  pub stages_are : p.stages ≡ stages
  pub inputs : p.inputs ≡ g.inputs
  pub outs : p.outs ≡ g.outs

-- the plan without the count of its stages
abbrev pub plan_of : StagePlan → Plan
plan_of p = record {
  assigned = p.assigned;
  schedule = p.schedule;
  arcs = p.arcs;
  registers = p.registers;
  unroll = p.unroll;
  inputs = p.inputs;
  outs = p.outs;
}
