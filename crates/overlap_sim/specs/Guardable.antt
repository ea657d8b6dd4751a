-- The plans over several stages of which guarded images are made.
use Rattle.std.specs.Prelude.{◌≡◌, ℕ, ◌<◌, ◌≤◌, [], length, slice_index_or}
use Rattle.std.specs.List.{AllPairs}
use Rattle.datapath.specs.declared.types.Datapath.{Datapath}
use Rattle.signal_graph.specs.GraphRules.{IsGraph}
use Rattle.signal_graph.specs.declared.graph.Graph.{Graph}
use Rattle.plan_core.specs.Arcs.{IsArcBefore, arc_of}
use Rattle.plan_soundness.specs.Feasible.{IsFeasiblePlanOver}
use Rattle.overlap_plan.specs.IsStagePlan.{plan_of}
use Rattle.overlap_plan.specs.declared.plan.StagePlan.{StagePlan}
use Rattle.overlap_sim.specs.GuardedOf.{overlap_of}

-- A feasible plan of the graph over its stages, by whatever rules. Each delay is in memory, and a line has a cell for
-- each sample in flight beyond its longest delay.
abbrev pub IsFeasibleStagePlan : Graph → Datapath → StagePlan → Type 0
IsFeasibleStagePlan g d p = IsFeasiblePlanOver (overlap_of p.stages) 0 p.stages g d (plan_of p)

-- it is a feasible plan of some sound graph over 1 to 4 stages, with its lifetimes in order, a slot for each node and
-- registers for each lifetime
pub record IsGuardable (d : Datapath) (p : StagePlan) : Type 0 where
  pub graph : Graph
  pub sound : IsGraph graph
  pub some : 1 ≤ p.stages
  pub few : p.stages ≤ 4
  pub plan : IsFeasibleStagePlan graph d p
  pub arcs : AllPairs IsArcBefore p.arcs
  pub slot_count : length p.schedule.slots ≡ length p.assigned.lowered.nodes
  pub register_count : length p.registers.regs ≡ length p.arcs
  pub copies : (k : ℕ)
      → k < length p.arcs
      → length (slice_index_or p.registers.regs k []) ≡ (arc_of p.arcs k).copies
