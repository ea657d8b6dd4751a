-- A plan over several stages by the rules is one whose nodes are placed by some rule.
use Rattle.std.proofs.Common.{ℕ, ◌<◌, ◌≤◌, inl, arith, length}
use Rattle.datapath.specs.Allowed.{IsDatapath}
use Rattle.datapath.specs.declared.types.Datapath.{Datapath}
use Rattle.signal_graph.specs.GraphRules.{IsGraph}
use Rattle.signal_graph.specs.declared.graph.Graph.{Graph}
use Rattle.plan_core.specs.Stages.{IsLoadOf, IsInStage, IsPlacedInStage}
use Rattle.plan_core.specs.declared.schedule.Schedule.{Schedule}
use Rattle.plan_soundness.specs.Units.{AreOnRightUnits}
use Rattle.plan_soundness.proofs.Units.{on_right_units}
use Rattle.overlap_plan.specs.IsStagePlan.{IsStagePlan}
use Rattle.overlap_sim.specs.Placed.{IsInItsStages, IsPlacedStagePlan}
use Rattle.overlap_plan.specs.declared.plan.StagePlan.{StagePlan}
use Rattle.overlap_plan.proofs.LinesBehind.{loads_behind, higher_behind}

module _ (g : Graph) (d : Datapath) (stages : ℕ) (allowed : IsDatapath d) (sound : IsGraph g) (some : 1 ≤ stages)
    (p : StagePlan) (is : IsStagePlan g d stages p) where
  -- what the rules ask of a cycle
  abbrev pub Asks : Schedule → (height : ℕ → ℕ) → (v t : ℕ) → Type 0
  Asks s height v t = IsInStage stages (IsLoadOf is.lowered.delays) d p.assigned s height v t

  on_units : AreOnRightUnits d p.assigned
  on_units = on_right_units is.assigned

  placed : (v : ℕ)
      → v < length p.assigned.lowered.nodes
      → IsPlacedInStage stages (IsLoadOf is.lowered.delays) d p.assigned p.schedule is.schedule.height v
  placed v there = is.schedule.placed v there

  -- the loads of a word are placed before its store
  in_stages : (v : ℕ)
      → v < length p.assigned.lowered.nodes
      → IsInItsStages stages (IsLoadOf is.lowered.delays) d p.assigned p.schedule v
  in_stages v there = record {
    input = λ e. (placed v there).can.allows.input e;
    output = λ e. (placed v there).can.allows.output e;
    stores = λ x ago loads.
        let behind =
        loads_behind g d allowed sound (omega (arith, some)) p.assigned is.lowered on_units v x ago loads in
        let higher = higher_behind g d allowed sound (omega (arith, some)) p.assigned is.lowered on_units v x
        behind.behind is.schedule.height is.schedule.heights in
        (placed v there).can.allows.stores x ago loads
        (record { node = behind.behind.there; before = inl higher });
  }

  pub placed_stage_plan : IsPlacedStagePlan Asks g d stages p
  placed_stage_plan = record {
    lowered = is.lowered;
    assigned = on_units;
    schedule = is.schedule;
    again = λ v there. (placed v there).can.allows.again;
    in_stages = in_stages;
    arcs = is.arcs;
    unroll = is.unroll;
    registers = is.registers;
    sizes = is.sizes;
    stages_are = is.stages_are;
    inputs = is.inputs;
    outs = is.outs;
  }
