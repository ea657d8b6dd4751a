-- A plan of a graph on a datapath.
use Rattle.std.specs.Prelude.{◌≡◌, ℕ, ◌<◌, length}
use Rattle.datapath.specs.declared.types.Datapath.{Datapath}
use Rattle.signal_graph.specs.declared.graph.Graph.{Graph}
use Rattle.plan_core.specs.Hardware.{file_size}
use Rattle.plan_core.specs.Lowered.{IsLowered}
use Rattle.plan_core.specs.Assigned.{IsAssigned}
use Rattle.plan_core.specs.ListSchedule.{IsListSchedule}
use Rattle.plan_core.specs.Arcs.{arc_of, IsArcs, IsUnroll}
use Rattle.plan_core.specs.FirstFit.{register_of, IsFirstFit}
use Rattle.plan_core.specs.declared.plan.Plan.{Plan}

-- the plan is the graph's: each of its parts follows its rule
pub record IsPlan (g : Graph) (d : Datapath) (p : Plan) : Type 0 where
  pub lowered : IsLowered g d p.assigned.lowered
  pub assigned : IsAssigned d p.assigned
  pub schedule : IsListSchedule d p.assigned p.schedule
  pub arcs : IsArcs d p.assigned p.schedule p.arcs
  pub unroll : IsUnroll p.arcs p.unroll
  pub registers : IsFirstFit d.period p.unroll p.arcs p.registers.regs
  -- each register is in its file
  pub sizes : (k i : ℕ)
      → k < length p.arcs
      → i < (arc_of p.arcs k).copies
      → register_of p.registers.regs k i < file_size d (arc_of p.arcs k).port
  pub inputs : p.inputs ≡ g.inputs
  pub outs : p.outs ≡ g.outs
