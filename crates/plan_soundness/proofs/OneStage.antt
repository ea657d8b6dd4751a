-- The law at one stage: a plan whose samples overlap over one stage is an ordinary one on a datapath without a hold.
use Rattle.std.proofs.Common.{◌≡◌, ℕ, ◌+◌, ◌*◌, ◌<◌, ◌≤◌, sym, subst, arith, length}
use Rattle.std.specs.Prelude.{◌↔◌}
use Rattle.std.proofs.Math.Nat.{mul-le-mul_right}
use Rattle.datapath.specs.declared.types.Datapath.{Datapath}
use Rattle.signal_graph.specs.GraphRules.{IsGraph}
use Rattle.signal_graph.specs.declared.graph.Graph.{Graph}
use Rattle.plan_core.specs.Lowered.{IsLoweredOver}
use Rattle.plan_core.specs.declared.plan.Plan.{Plan}
use Rattle.plan_soundness.specs.Parts.{nodes_of, node_at, edge_at, arc_at, ends_at}
use Rattle.plan_soundness.specs.Samples.{past}
use Rattle.plan_soundness.specs.Overlap.{Overlap}
use Rattle.plan_soundness.specs.Feasible.{IsFeasibleLine, IsFeasibleOver, IsFeasiblePlanOver, IsFeasiblePlan}
use Rattle.plan_soundness.proofs.FromLowered.{edges_held}
use Rattle.plan_soundness.proofs.Samples.{one_more}

-- each sample ends in one stage, and lifetimes keep no word of a sample before sample 0
abbrev pub one_stage : Overlap
one_stage = record { stages = 1; first = past }

module _ (stages a b : ℕ) (d : Datapath) (p : Plan) where
  abbrev old : Overlap
  old = record { stages = stages; first = a }

  abbrev new : Overlap
  new = record { stages = stages; first = b }

  line_from : (l : ℕ) → IsFeasibleLine old d p l → IsFeasibleLine new d p l
  line_from l is = record {
    node = is.node;
    store = is.store;
    stores = is.stores;
    room = is.room;
    some = is.some;
    depth = is.depth;
  }

  -- from which sample on lifetimes keep words is said in three places
  pub kept_from : IsFeasibleOver old d p
      → b ≤ past
      → ((v q : ℕ) → v < length (nodes_of p) → q < length (node_at p v).edges → b + (edge_at p v q).delay ≤ past)
      → ((k s : ℕ)
      → k < length p.arcs
      → b ≤ s
      → s < past
      → ends_at d p (arc_at p k).node + s * d.period < past * d.period)
      → IsFeasibleOver new d p
  kept_from is first short early = record {
    period = is.period;
    stages = is.stages;
    first = first;
    unroll = is.unroll;
    turns = is.turns;
    gaps = is.gaps;
    operand_count = is.operand_count;
    edges = λ v q in-v in-q. ((is.edges v q in-v in-q).0, short v q in-v in-q);
    outputs = is.outputs;
    units = is.units;
    buses = is.buses;
    fits = is.fits;
    inputs = is.inputs;
    outputs_last = is.outputs_last;
    unit_free = is.unit_free;
    bus_free = is.bus_free;
    transfer_once = is.transfer_once;
    transfers = is.transfers;
    arcs = is.arcs;
    early = early;
    file_free = is.file_free;
    ports = is.ports;
    read = is.read;
    read_in = is.read_in;
    registers = is.registers;
    memory = record {
      lines = λ l in-l. line_from l (is.memory.lines l in-l);
      lines_apart = is.memory.lines_apart;
      loads = is.memory.loads;
      stores = is.memory.stores;
    };
    load_in = is.load_in;
  }

module _ (g : Graph) (d : Datapath) (p : Plan) (sound : IsGraph g) (none : d.hold ≡ 0) where
  from_one_stage : IsFeasiblePlanOver one_stage 0 1 g d p → IsFeasiblePlan g d p
  from_one_stage plan = record {
    lowered = subst (λ hold. IsLoweredOver hold 1 g d p.assigned.lowered) (sym none) plan.lowered;
    assigned = plan.assigned;
    feasible = kept_from 1 past 0 d p plan.feasible (omega arith)
        (λ v q in-v in-q. omega (arith, (plan.feasible.edges v q in-v in-q).1)) early;
    unroll = plan.unroll;
    sizes = plan.sizes;
    inputs = plan.inputs;
    outs = plan.outs;
  }
    where
      early : (k s : ℕ)
          → k < length p.arcs
          → 0 ≤ s
          → s < past
          → ends_at d p (arc_at p k).node + s * d.period < past * d.period
      early k s in-k from before =
          let le : (s + 1) * d.period ≤ past * d.period = mul-le-mul_right d.period (omega (arith, before)) in
          omega (arith, le, one_more s d.period, plan.feasible.fits (arc_at p k).node (plan.feasible.arcs k in-k).node)

  to_one_stage : IsFeasiblePlan g d p → IsFeasiblePlanOver one_stage 0 1 g d p
  to_one_stage plan = record {
    lowered = subst (λ hold. IsLoweredOver hold 1 g d p.assigned.lowered) none plan.lowered;
    assigned = plan.assigned;
    feasible = kept_from 1 0 past d p plan.feasible (omega arith)
        (λ v q in-v in-q.
        omega (arith, edges_held g d p sound plan.lowered plan.assigned v q in-v in-q, none))
        (λ k s in-k from before. absurd (omega (arith, from, before)));
    unroll = plan.unroll;
    sizes = plan.sizes;
    inputs = plan.inputs;
    outs = plan.outs;
  }

  pub one_stage_law : IsFeasiblePlanOver one_stage 0 1 g d p ↔ IsFeasiblePlan g d p
  one_stage_law = (from_one_stage, to_one_stage)
