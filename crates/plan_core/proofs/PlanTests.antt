-- A plan whose rules after the lowering are computed.
use Rattle.std.proofs.Common.{◌≡◌, ℕ, ◌<◌, List, length, true}
use Rattle.datapath.specs.declared.types.Datapath.{Datapath}
use Rattle.signal_graph.specs.declared.graph.Graph.{Graph}
use Rattle.plan_core.specs.Hardware.{file_size}
use Rattle.plan_core.specs.Lowered.{IsLowered}
use Rattle.plan_core.specs.Arcs.{arc_of}
use Rattle.plan_core.specs.FirstFit.{register_of}
use Rattle.plan_core.specs.IsPlan.{IsPlan}
use Rattle.plan_core.specs.declared.registers.Arc.{Arc}
use Rattle.plan_core.specs.declared.plan.Plan.{Plan}
use Rattle.plan_core.proofs.Tests.{Test, passed, lt, below}
use Rattle.plan_core.proofs.AssignedTests.{is_assigned}
use Rattle.plan_core.proofs.ScheduleTests.{are_heights, are_placed, scheduled}
use Rattle.plan_core.proofs.RegisterTests.{are_arcs, is_unroll, is_first_fit}

abbrev Sizes : Datapath → List Arc → List (List ℕ) → Type 0
Sizes d arcs regs =
    (k : ℕ) → k < length arcs → (i : ℕ) → i < (arc_of arcs k).copies
    → register_of regs k i < file_size d (arc_of arcs k).port

abbrev pub are_in_files : (d : Datapath) (arcs : List Arc) (regs : List (List ℕ)) → Test (Sizes d arcs regs)
are_in_files d arcs regs =
    below (length arcs) (λ k. below (arc_of arcs k).copies (λ i. lt (register_of regs k i)
    (file_size d (arc_of arcs k).port)))

pub planned : (g : Graph) (d : Datapath) (p : Plan) (height : ℕ → ℕ)
    → IsLowered g d p.assigned.lowered
    → (is_assigned d p.assigned).passes ≡ true
    → (are_heights d p.assigned height).passes ≡ true
    → length p.schedule.slots ≡ length p.assigned.lowered.nodes
    → (are_placed d p.assigned p.schedule height).passes ≡ true
    → (are_arcs d p.assigned p.schedule p.arcs).passes ≡ true
    → (is_unroll p.arcs p.unroll).passes ≡ true
    → (is_first_fit d.period p.unroll p.arcs p.registers.regs).passes ≡ true
    → (are_in_files d p.arcs p.registers.regs).passes ≡ true
    → p.inputs ≡ g.inputs
    → p.outs ≡ g.outs
    → IsPlan g d p
planned g d p height low units high count slots lives unroll regs sizes inputs outs =
    let sized = passed (are_in_files d p.arcs p.registers.regs) sizes in record {
      lowered = low;
      assigned = passed (is_assigned d p.assigned) units;
      schedule = scheduled d p.assigned p.schedule height high count slots;
      arcs = passed (are_arcs d p.assigned p.schedule p.arcs) lives;
      unroll = passed (is_unroll p.arcs p.unroll) unroll;
      registers = passed (is_first_fit d.period p.unroll p.arcs p.registers.regs) regs;
      sizes = λ k i less copy. sized k less i copy;
      inputs = inputs;
      outs = outs;
    }
