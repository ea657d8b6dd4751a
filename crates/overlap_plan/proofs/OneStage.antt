-- Over one stage the plan is the ordinary one, where no delay is held.
use Rattle.std.proofs.Common.{◌≡◌, ◌∙◌, refl, sym, subst, arith, ℕ, ◌*◌, ◌<◌, ◌≤◌, ⊎_elim, List, length}
use Rattle.std.proofs.lemmas.Bool.{cases_lt}
use Rattle.std.proofs.lemmas.List.Elements.{All-weaker}
use Rattle.std.proofs.Math.Nat.{mod-eq_of_lt, mul-le-mul_right}
use Rattle.datapath.specs.Allowed.{IsDatapath}
use Rattle.datapath.specs.declared.types.Datapath.{Datapath}
use Rattle.signal_graph.specs.GraphRules.{IsGraph}
use Rattle.signal_graph.specs.declared.graph.Edge.{Edge}
use Rattle.signal_graph.specs.declared.graph.Graph.{Graph}
use Rattle.plan_core.specs.Operands.{delay_at, edge_of, node_of, Reads}
use Rattle.plan_core.specs.Assigned.{unit_in, IsAssigned}
use Rattle.plan_core.specs.Heights.{latency_of}
use Rattle.plan_core.specs.Lowered.{IsLoweredOver}
use Rattle.plan_core.specs.ListSchedule.{ends, IsListSchedule}
use Rattle.plan_core.specs.Arcs.{ReadsArc, read_cycle, IsArcOver, IsArcsOver, IsArcs}
use Rattle.plan_core.specs.IsPlan.{IsPlan}
use Rattle.plan_core.specs.Stages.{IsLoadOf, written_around, read_around, AreStageArcs}
use Rattle.plan_core.specs.declared.registers.Arc.{Arc}
use Rattle.plan_core.specs.declared.schedule.Assigned.{Assigned}
use Rattle.plan_core.specs.declared.schedule.Schedule.{Schedule}
use Rattle.plan_core.proofs.OneHeight.{live_of}
use Rattle.plan_core.proofs.Readers.{reader_there, edge_has}
use Rattle.plan_soundness.proofs.Units.{on_right_units}
use Rattle.plan_soundness.proofs.FromLowered.{loads_from}
use Rattle.delay_memory.proofs.LoweredNodes.{edges_there}
use Rattle.overlap_plan.specs.IsStagePlan.{IsStagePlan, plan_of}
use Rattle.overlap_plan.specs.declared.plan.StagePlan.{StagePlan}
use Rattle.overlap_plan.proofs.AtOneStage.{scheduled_to, scheduled_of}

-- Lifetimes of words that are written and read in the same cycles, told in two ways, are the same.
module _ (w x : (v : ℕ) → ℕ) (r s : (v c q : ℕ) → ℕ) (d : Datapath) (a : Assigned)
    (written : (v c q : ℕ) → Reads a.lowered.nodes c q v → w v ≡ x v)
    (read : (v c q : ℕ) → Reads a.lowered.nodes c q v → r v c q ≡ s v c q) where
  one_alike : (arc : Arc) → IsArcOver w r d a arc → IsArcOver x s d a arc
  one_alike arc is =
      let reads = is.read.1.reads in
      record {
        written = is.written ∙ written arc.node is.read.0 arc.port.port reads;
        last = λ c reads_c.
            subst (λ (n : ℕ). n ≤ arc.r) (read arc.node c arc.port.port reads_c.reads) (is.last c reads_c);
        read = (is.read.0, is.read.1, is.read.2 ∙ read arc.node is.read.0 arc.port.port reads);
        count = is.count;
        covered = is.covered;
        least = is.least;
      }

  pub arcs_alike : (arcs : List Arc) → IsArcsOver w r d a arcs → IsArcsOver x s d a arcs
  arcs_alike arcs are = record {
    order = are.order;
    each = All-weaker (IsArcOver w r d a) (IsArcOver x s d a) one_alike arcs are.each;
    every = are.every;
  }

module _ (g : Graph) (d : Datapath) (path : IsDatapath d) (sound : IsGraph g) where
  -- a word is stored in an earlier sample than that in which it is loaded
  pub loads_older : {spare : ℕ} (a : Assigned) (low : IsLoweredOver 0 spare g d a.lowered)
      → IsAssigned d a
      → (p : StagePlan)
      → p.assigned ≡ a
      → (v x ago : ℕ)
      → IsLoadOf low.delays v x ago
      → 0 < ago
  loads_older a low bound p same v x ago loads =
      (loads_from g d (record (plan_of p) { assigned = a }) sound low (on_right_units bound) loads.node ago x
      loads.its_load).1.before

  -- The lifetimes of a schedule whose samples do not overlap.
  module _ {hold spare : ℕ} (a : Assigned) (low : IsLoweredOver hold spare g d a.lowered) (s : Schedule)
      (scheduled : IsListSchedule d a s) where
    inside : (v c q : ℕ) → Reads a.lowered.nodes c q v → v < length a.lowered.nodes
    inside v c q reads =
        subst (λ (u : ℕ). u < length a.lowered.nodes) reads.node
        (edge_has (λ (edge : Edge). edge.node < length a.lowered.nodes) a.lowered.nodes
        (edges_there g d a.lowered sound low) c q v reads)

    ended : (v : ℕ) → v < length a.lowered.nodes → ends d a s v < d.period
    ended v there =
        let fits = (scheduled.placed v there).can.fits.period in
        omega (arith, fits, live_of d path (unit_in a.units v))

    written_same : (v c q : ℕ) → Reads a.lowered.nodes c q v → written_around d a s v ≡ ends d a s v
    written_same v c q reads = mod-eq_of_lt (ended v (inside v c q reads))

    read_after : (v c q : ℕ) → Reads a.lowered.nodes c q v → ends d a s v ≤ read_cycle d a s c q
    read_after v c q reads =
        ⊎_elim
        (λ (now : delay_at a.lowered.nodes c q < 1).
        let ready = (scheduled.placed c (reader_there a.lowered.nodes c q v reads)).can.operands q v
        (record { reads = reads; now = omega (arith, now) }) in
        omega (arith, ready, live_of d path (unit_in a.units v)))
        (λ (ago : 1 ≤ delay_at a.lowered.nodes c q).
        let whole : 1 * d.period ≤ delay_at a.lowered.nodes c q * d.period = mul-le-mul_right d.period ago in
        omega (arith, ended v (inside v c q reads), whole))
        (cases_lt (delay_at a.lowered.nodes c q) 1)

    read_same : (v c q : ℕ) → Reads a.lowered.nodes c q v → read_around d a s v c q ≡ read_cycle d a s c q
    read_same v c q reads =
        let after = read_after v c q reads in
        let same = written_same v c q reads in
        omega (arith, after, same)

    abbrev read_in : (v c q : ℕ) → ℕ
    read_in v c q = read_cycle d a s c q

    pub arcs_to : (arcs : List Arc) → AreStageArcs d a s arcs → IsArcs d a s arcs
    arcs_to arcs =
        arcs_alike (written_around d a s) (ends d a s) (read_around d a s) read_in d a written_same read_same arcs

    pub arcs_of : (arcs : List Arc) → IsArcs d a s arcs → AreStageArcs d a s arcs
    arcs_of arcs =
        arcs_alike (ends d a s) (written_around d a s) read_in (read_around d a s) d a
        (λ v c q reads. sym (written_same v c q reads)) (λ v c q reads. sym (read_same v c q reads)) arcs

  -- Where the datapath holds no delay, a plan over one stage is one of samples that do not overlap, and so the
  -- other way.
  module _ (none : d.hold ≡ 0) (p : StagePlan) where
    abbrev of_hold : ℕ → Type 0
    of_hold hold = IsLoweredOver hold 1 g d p.assigned.lowered

    pub plan_of_stage : IsStagePlan g d 1 p → IsPlan g d (plan_of p)
    plan_of_stage is =
        let scheduled =
        scheduled_to d path p.assigned p.schedule (IsLoadOf is.lowered.delays)
        (loads_older p.assigned is.lowered is.assigned p refl) is.schedule in
        record {
          lowered = subst of_hold (sym none) is.lowered;
          assigned = is.assigned;
          schedule = scheduled;
          arcs = arcs_to p.assigned is.lowered p.schedule scheduled p.arcs is.arcs;
          unroll = is.unroll;
          registers = is.registers;
          sizes = is.sizes;
          inputs = is.inputs;
          outs = is.outs;
        }

    pub stage_of_plan : p.stages ≡ 1 → IsPlan g d (plan_of p) → IsStagePlan g d 1 p
    stage_of_plan stages is =
        let low = subst of_hold none is.lowered in
        record {
          lowered = low;
          assigned = is.assigned;
          schedule = scheduled_of d path p.assigned p.schedule (IsLoadOf low.delays)
              (loads_older p.assigned low is.assigned p refl) is.schedule;
          arcs = arcs_of p.assigned low p.schedule is.schedule p.arcs is.arcs;
          unroll = is.unroll;
          registers = is.registers;
          sizes = is.sizes;
          stages_are = stages;
          inputs = is.inputs;
          outs = is.outs;
        }
