-- The guarded image from its parts, and what is known of the plan that it is made of.
use Rattle.std.proofs.Common.{◌≡◌, ℕ, ◌-◌, ◌≤◌, refl, arith, List, length, map}
use Rattle.datapath.specs.Allowed.{IsDatapath}
use Rattle.datapath.specs.declared.types.Datapath.{Datapath}
use Rattle.signal_graph.specs.GraphRules.{IsGraph}
use Rattle.signal_graph.specs.declared.graph.Graph.{Graph}
use Rattle.operations.specs.declared.units.PortRef.{PortRef}
use Rattle.micro_image.specs.declared.image.UnitDesc.{UnitDesc}
use Rattle.micro_image.specs.Valid.{IsValid}
use Rattle.plan_soundness.specs.Parts.{lines_of}
use Rattle.plan_soundness.specs.ImageOf.{IsPreloadOfOver, width_of}
use Rattle.plan_soundness.specs.Run.{RunsSolutionLate}
use Rattle.plan_soundness.proofs.Machines.{machine_of}
use Rattle.microcode_asm.proofs.ReadyPlans.{inits_rise}
use Rattle.plan_core.specs.declared.schedule.Schedule.{Schedule}
use Rattle.overlap_plan.specs.IsStagePlan.{IsStagePlan, plan_of}
use Rattle.overlap_sim.specs.Placed.{IsPlacedStagePlan}
use Rattle.overlap_sim.proofs.Placed.{placed_stage_plan}
use Rattle.overlap_plan.specs.declared.plan.StagePlan.{StagePlan}
use Rattle.overlap_sim.specs.declared.guarded.Guarded.{Guarded}
use Rattle.overlap_sim.specs.declared.guarded.GuardedWord.{GuardedWord}
use Rattle.overlap_sim.specs.Guarded.{of_guarded, unguarded}
use Rattle.overlap_sim.specs.GuardedOf.{overlap_of, IsGuardedOf}
use Rattle.overlap_plan.specs.StagePlanned.{IsStagePlanned}
use Rattle.overlap_sim.specs.Private.Staged.{IsStageReady, AreWords}
use Rattle.overlap_sim.specs.Private.Cells.{AreCellsStarted}
use Rattle.overlap_sim.specs.Guardable.{IsFeasibleStagePlan, IsGuardable}
use Rattle.overlap_sim.proofs.GuardedRuns.{offsets_of, guarded_runs}
use Rattle.overlap_sim.proofs.GuardedValid.{guarded_valid}
use Rattle.overlap_sim.proofs.StageFeasible.{stage_feasible}

-- a plan whose nodes are placed by whatever rule can be guarded
pub placed_guardable :
    {Allows : Schedule → (height : ℕ → ℕ) → (v t : ℕ) → Type 0} (g : Graph) (d : Datapath) (sp : StagePlan)
    → IsDatapath d
    → IsGraph g
    → 1 ≤ sp.stages
    → sp.stages ≤ 4
    → IsPlacedStagePlan Allows g d sp.stages sp
    → IsGuardable d sp
placed_guardable g d sp path sound some few plan = record {
  graph = g;
  sound = sound;
  some = some;
  few = few;
  plan = stage_feasible g d sp.stages sp sound (machine_of d path) (omega (arith, some)) plan;
  arcs = plan.arcs.order;
  slot_count = plan.schedule.count;
  register_count = plan.registers.count;
  copies = plan.registers.copies;
}

-- so can a plan by the rules
pub planned_guardable : (d : Datapath) (sp : StagePlan) → IsDatapath d → IsStagePlanned d sp → IsGuardable d sp
planned_guardable d sp path planned =
    placed_guardable planned.graph d sp path planned.sound planned.some planned.few
    (placed_stage_plan planned.graph d sp.stages path planned.sound planned.some sp planned.plan)

-- a plan whose guarded image is made is ready
pub stage_ready : (d : Datapath) (sp : StagePlan) → IsDatapath d → IsGuardable d sp → IsStageReady d sp
stage_ready d sp path of = record {
  ready = record {
    graph = of.graph;
    machine = machine_of d path;
    plan = of.plan;
    arcs = of.arcs;
    slot_count = of.slot_count;
    register_count = of.register_count;
    copies = of.copies;
    inits = inits_rise of.graph d (plan_of sp) of.sound of.plan;
  };
  few = of.few;
  offsets = offsets_of of.graph d (plan_of sp) of.sound of.plan.lowered of.plan.assigned;
}

-- its guarded image is valid without its stages
pub guardable_valid : (d : Datapath) (sp : StagePlan) (guarded : Guarded)
    → IsDatapath d
    → IsGuardable d sp
    → IsGuardedOf sp.stages d (plan_of sp) guarded
    → IsValid (unguarded guarded)
guardable_valid d sp guarded path is of =
    guarded_valid sp.stages is.graph d (plan_of sp) is.sound (machine_of d path) is.plan guarded of

-- and it runs the solution of each graph of which this is a feasible plan, all but one of the stages late
pub feasible_runs : (g : Graph) (d : Datapath) (sp : StagePlan) (guarded : Guarded)
    → IsGraph g
    → IsFeasibleStagePlan g d sp
    → IsGuardedOf sp.stages d (plan_of sp) guarded
    → RunsSolutionLate (sp.stages - 1) g (of_guarded guarded)
feasible_runs g d sp guarded sound plan of = guarded_runs sp.stages g d (plan_of sp) guarded sound plan of

-- also where it is a plan by the rules
pub planned_runs : (g : Graph) (d : Datapath) (sp : StagePlan) (guarded : Guarded)
    → IsDatapath d
    → 1 ≤ sp.stages
    → IsGraph g
    → IsStagePlan g d sp.stages sp
    → IsGuardedOf sp.stages d (plan_of sp) guarded
    → RunsSolutionLate (sp.stages - 1) g (of_guarded guarded)
planned_runs g d sp guarded path some sound plan of =
    feasible_runs g d sp guarded sound
    (stage_feasible g d sp.stages sp sound (machine_of d path) (omega (arith, some))
    (placed_stage_plan g d sp.stages path sound some sp plan)) of

-- the guarded image has these parts
pub guarded_is :
    (d : Datapath) (sp : StagePlan) (inputs : List ℕ) (buses : ℕ) (units : List UnitDesc) (words : List GuardedWord)
    → inputs ≡ map width_of sp.inputs
    → AreCellsStarted d (plan_of sp) (length (lines_of (plan_of sp))) units
    → buses ≡ length d.buses
    → AreWords d (plan_of sp) sp.unroll words
    → IsGuardedOf sp.stages d (plan_of sp)
    (record {
      period = d.period;
      unroll = sp.unroll;
      inputs = inputs;
      outs = sp.outs;
      units = units;
      buses = buses;
      words = words;
    })
guarded_is d sp inputs buses units words inputs-are started buses-are words-are = record {
  period = refl;
  unroll = refl;
  inputs = inputs-are;
  outs = refl;
  buses = buses-are;
  unit_count = started.are.count;
  units = started.are.each;
  starts = record {
    register = λ port reg k i ago of. absurd (none port reg k i ago of);
    other_register = λ port reg never. started.register port.unit port.port reg;
    cell = λ ram cell l ago of. started.cell ram cell l ago of.there of;
    other_cell = λ ram cell never. started.other ram cell (λ l ago less. never l ago);
  };
  word_count = words-are.count;
  words = words-are.each;
}
  where
    -- a register keeps no word of before sample 0
    none : (port : PortRef) (reg k i ago : ℕ)
        → IsPreloadOfOver (overlap_of sp.stages) d (plan_of sp) port reg k i ago
        → ⊥
    none port reg k i ago of =
        let kept : 1024 ≤ 1024 - ago = of.preload.kept in
        let before : 1 ≤ ago = of.preload.before in
        absurd (omega (arith, kept, before))
