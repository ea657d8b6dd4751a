-- What the passes of a plan over stages ask of the lowered list of a sound graph.
use Rattle.std.proofs.Common.{◌≡◌, arith, ℕ, ◌*◌, ◌<◌, ◌≤◌, List, length}
use Rattle.std.proofs.Math.Nat.{mod-lt}
use Rattle.datapath.specs.Allowed.{IsDatapath}
use Rattle.datapath.specs.declared.types.Datapath.{Datapath}
use Rattle.signal_graph.specs.GraphRules.{IsGraph}
use Rattle.signal_graph.specs.GraphSolves.{IsGraphLoopless}
use Rattle.signal_graph.specs.declared.graph.Edge.{Edge}
use Rattle.signal_graph.specs.declared.graph.Graph.{Graph}
use Rattle.plan_core.specs.Operands.{delay_at, Reads}
use Rattle.plan_core.specs.Lowered.{IsLoweredOver}
use Rattle.plan_core.specs.Assigned.{unit_in}
use Rattle.plan_core.specs.ListSchedule.{ends, IsListScheduleOver}
use Rattle.plan_core.specs.Stages.{IsLoadOf, IsStageSchedule, IsStageScheduleOver, IsWithoutStage, IsWithoutStageOver}
use Rattle.plan_core.specs.Stages.{IsGapAround, IsSameAround, AreStageArcs, written_around, read_around}
use Rattle.plan_core.specs.declared.registers.Arc.{Arc}
use Rattle.plan_core.specs.declared.schedule.Assigned.{Assigned}
use Rattle.plan_core.specs.declared.schedule.Schedule.{Schedule}
use Rattle.plan_core.proofs.OneHeight.{live_of}
use Rattle.plan_core.proofs.Readers.{reader_there, edge_has}
use Rattle.plan_soundness.specs.Units.{AreOnRightUnits}
use Rattle.delay_memory.proofs.LoweredNodes as of_list
use Rattle.schedule_priority.specs.Problem.{IsProblem}
use Rattle.cyclic_life.specs.Held.{AreReadNow, IsOverStages}
use Rattle.reg_alloc.specs.Allottable.{AreAllottable}
use Rattle.reg_alloc.proofs.FromArcs.{allottable_over}
use Rattle.planner.proofs.Asked.{schedulable}
use Rattle.overlap_plan.specs.Lines.{LoadsBehind}
use Rattle.overlap_plan.specs.Staged.{IsStageProblem}
use Rattle.overlap_plan.specs.Private.Placing.{Loads}
use Rattle.overlap_plan.proofs.LinesBehind.{loads_behind, load_of_cells, cells_behind, higher_behind}
use Rattle.overlap_plan.proofs.SameLoads.{schedule_to, without_to}

module _ (g : Graph) (d : Datapath) (stages : ℕ) (allowed : IsDatapath d) (sound : IsGraph g) where
  module _ (loopless : IsGraphLoopless g) (a : Assigned) (low : IsLoweredOver 0 stages g d a.lowered)
      (bound : AreOnRightUnits d a) where
    pub problem_of : IsProblem d a
    problem_of = record { path = allowed; schedulable = schedulable g d sound a low loopless bound }

    pub stage_problem_of : 1 ≤ stages → stages ≤ 4 → IsStageProblem d a stages
    stage_problem_of some few = record {
      problem = problem_of;
      some = some;
      few = few;
      cells = cells_behind g d allowed sound (omega (arith, some)) a low bound;
      higher = higher_behind g d allowed sound (omega (arith, some)) a low bound;
    }

  module _ (some : 1 ≤ stages) (a : Assigned) (low : IsLoweredOver 0 stages g d a.lowered)
      (bound : AreOnRightUnits d a) where
    -- the loads that the code finds behind a store are those of its word
    pub of_behind : (v x ago : ℕ) → Loads a v x ago → IsLoadOf low.delays v x ago
    of_behind v x ago loads =
        load_of_cells g d allowed sound (omega (arith, some)) a low bound v x loads.behind ago loads.cells

    pub to_behind : (v x ago : ℕ) → IsLoadOf low.delays v x ago → Loads a v x ago
    to_behind v x ago loads = loads_behind g d allowed sound (omega (arith, some)) a low bound v x ago loads

    pub schedule_of : (s : Schedule)
        → IsStageScheduleOver stages (Loads a) d a s
        → IsStageSchedule stages low.delays d a s
    schedule_of = schedule_to stages (Loads a) (IsLoadOf low.delays) of_behind to_behind d a

    pub without_of : (v : ℕ)
        → IsWithoutStageOver stages (Loads a) d a v
        → IsWithoutStage stages low.delays d a v
    without_of = without_to stages (Loads a) (IsLoadOf low.delays) of_behind to_behind d a

  module _ (a : Assigned) (low : IsLoweredOver 0 stages g d a.lowered) where
    pub read_now : AreReadNow a
    read_now v node there q edge port =
        let short = of_list.edges_short g d a.lowered sound low v node there q edge port in omega (arith, short)

    now : (c q v : ℕ) → Reads a.lowered.nodes c q v → delay_at a.lowered.nodes c q ≡ 0
    now c q v reads =
        let short = edge_has (λ (edge : Edge). edge.delay ≤ 0) a.lowered.nodes
        (of_list.edges_short g d a.lowered sound low) c q v reads in
        omega (arith, short)

    -- a schedule over four stages at most, whatever else is asked of a cycle
    module _ {Allows : Schedule → (height : ℕ → ℕ) → (v t : ℕ) → Type 0} (s : Schedule)
        (scheduled : IsListScheduleOver (IsGapAround d.period) (IsSameAround d.period) (stages * d.period) Allows d a s)
      where
        pub over_stages : stages ≤ 4 → IsOverStages d a s
        over_stages few = record {
          stages = stages;
          few = few;
          count = scheduled.count;
          ends = λ v there. (scheduled.placed v there).can.fits.period;
          operands = λ v there. (scheduled.placed v there).can.operands;
        }

        later : (c q v : ℕ)
            → Reads a.lowered.nodes c q v
            → v < length a.lowered.nodes
            → written_around d a s v < read_around d a s v c q
        later c q v reads there =
            let ready = (scheduled.placed c (reader_there a.lowered.nodes c q v reads)).can.operands q v
            (record { reads = reads; now = now c q v reads }) in
            let some = live_of d allowed (unit_in a.units v) in
            omega (arith, some, ready)

        pub allottable_of : AreOnRightUnits d a
            → (arcs : List Arc)
            → AreStageArcs d a s arcs
            → AreAllottable d arcs
        allottable_of bound arcs are =
            allottable_over (written_around d a s) (read_around d a s) d a allowed
            (of_list.edge_count g d a.lowered sound low) (of_list.edges_there g d a.lowered sound low) bound.right
            (λ v there. mod-lt (ends d a s v) (omega (arith, allowed.period.0))) later arcs are
