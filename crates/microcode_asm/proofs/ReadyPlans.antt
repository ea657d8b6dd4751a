-- What the assembler knows of a plan of a sound graph.
use Rattle.std.proofs.Common.{◌≡◌, ℕ, ◌<◌, sym, ap, subst, arith, List, [], length, ℤ}
use Rattle.std.specs.List.Sorted.{IsStrictlyIncreasing}
use Rattle.datapath.specs.Allowed.{IsDatapath}
use Rattle.datapath.specs.declared.types.Datapath.{Datapath}
use Rattle.signal_graph.specs.GraphRules.{IsGraph}
use Rattle.signal_graph.specs.declared.graph.Node.{Node}
use Rattle.signal_graph.specs.declared.graph.Graph.{Graph}
use Rattle.plan_core.specs.IsPlan.{IsPlan}
use Rattle.plan_core.specs.Lowered.{Origin, own, address, store, load, IsNumber, IsOwnOver, IsAddress, IsStore, IsLoad}
use Rattle.plan_core.specs.declared.schedule.Schedule.{Schedule}
use Rattle.plan_core.specs.declared.plan.Plan.{Plan}
use Rattle.micro_image.specs.declared.image.Image.{Image}
use Rattle.micro_image.specs.Size.{IsShort}
use Rattle.micro_image.specs.Valid.{IsValid}
use Rattle.plan_soundness.specs.ImageOf.{IsImageOf}
use Rattle.plan_soundness.specs.Instances.{FindsInstances}
use Rattle.plan_soundness.specs.Parts.{nodes_of, node_at}
use Rattle.plan_soundness.specs.Run.{RunsSolution}
use Rattle.plan_soundness.specs.Overlap.{Overlap}
use Rattle.plan_soundness.specs.Placed.{IsPlacedPlan}
use Rattle.plan_soundness.specs.Feasible.{IsFeasiblePlanOver}
use Rattle.plan_soundness.proofs.Machines.{machine_of}
use Rattle.plan_soundness.proofs.FromLowered.{made_at, made_as, own_below, graph_node}
use Rattle.plan_soundness.proofs.Instances.{finds_instances}
use Rattle.plan_soundness.proofs.RunsSolution.{placed_feasible, placed_plan, image_runs_solution}
use Rattle.plan_soundness.proofs.Valid.{feasible_valid, feasible_short, image_valid, image_short}
use Rattle.microcode_asm.specs.Planned.{IsPlanned, IsAssemblable}
use Rattle.microcode_asm.specs.Private.Ready.{IsReady, samples_of}

none_rise : (inits : List (ℕ × ℤ)) → inits ≡ [] → IsStrictlyIncreasing (samples_of inits)
none_rise inits e =
    subst (λ inits. IsStrictlyIncreasing (samples_of inits)) (sym e) (λ k below. absurd (omega (arith, below)))

module _ {o : Overlap} {hold spare : ℕ} (g : Graph) (d : Datapath) (p : Plan) (sound : IsGraph g)
    (plan : IsFeasiblePlanOver o hold spare g d p)
  where
    -- the initial values of each node rise
    pub inits_rise : (i : ℕ) → i < length (nodes_of p) → IsStrictlyIncreasing (samples_of (node_at p i).inits)
    inits_rise i in-i =
        let at = made_at g d p sound plan.lowered plan.assigned i in-i in by at.origin at.number
      where
        by : (o : Origin) → IsNumber plan.lowered.delays o i → IsStrictlyIncreasing (samples_of (node_at p i).inits)
        by (own v) number =
            let made : IsOwnOver g d p.assigned.lowered plan.lowered.delays hold v (node_at p i) =
            made_as g d p sound plan.lowered plan.assigned (own v) i number in
            let node = graph_node g d p sound plan.lowered plan.assigned v
            (own_below g d p sound plan.lowered plan.assigned v i number) in
            subst (λ inits. IsStrictlyIncreasing (samples_of inits))
            (sym (ap (λ (node : Node). node.inits) made.rest)) node.inits.rise
        by (address v ago) number =
            let made : IsAddress g d p.assigned.lowered plan.lowered.delays v ago (node_at p i) =
            made_as g d p sound plan.lowered plan.assigned (address v ago) i number in
            none_rise _ (ap (λ (node : Node). node.inits) made.is)
        by (store v) number =
            let made : IsStore g d p.assigned.lowered plan.lowered.delays v (node_at p i) =
            made_as g d p sound plan.lowered plan.assigned (store v) i number in
            none_rise _ (ap (λ (node : Node). node.inits) made.is)
        by (load v ago) number =
            let made : IsLoad g d p.assigned.lowered plan.lowered.delays v ago (node_at p i) =
            made_as g d p sound plan.lowered plan.assigned (load v ago) i number in
            none_rise _ (ap (λ (node : Node). node.inits) made.is)

-- a plan that is assembled is ready
pub assemblable_ready : (d : Datapath) (p : Plan) → IsDatapath d → IsAssemblable d p → IsReady d p
assemblable_ready d p path of = record {
  graph = of.graph;
  machine = machine_of d path;
  plan = of.plan;
  arcs = of.arcs;
  slot_count = of.slot_count;
  register_count = of.register_count;
  copies = of.copies;
  inits = inits_rise of.graph d p of.sound of.plan;
}

-- a plan whose nodes are placed by whatever rule can be assembled
pub placed_assemblable :
    {Allows : Schedule → (height : ℕ → ℕ) → (v t : ℕ) → Type 0} (g : Graph) (d : Datapath) (p : Plan)
    → IsDatapath d
    → IsGraph g
    → IsPlacedPlan Allows g d p
    → IsAssemblable d p
placed_assemblable g d p path sound plan = record {
  graph = g;
  sound = sound;
  plan = placed_feasible g d p sound (machine_of d path) plan;
  arcs = plan.arcs.order;
  slot_count = plan.schedule.count;
  register_count = plan.registers.count;
  copies = plan.registers.copies;
}

pub ready : (d : Datapath) (p : Plan) → IsDatapath d → IsPlanned d p → IsReady d p
ready d p path planned =
    assemblable_ready d p path
    (placed_assemblable planned.graph d p path planned.sound (placed_plan planned.plan))

-- the image of a feasible plan is valid, what spells it is short, and it runs the solution of the graph
pub assemblable_valid : (d : Datapath) (p : Plan) (image : Image)
    → IsDatapath d
    → IsAssemblable d p
    → IsImageOf d p image
    → IsValid image
assemblable_valid d p image path is of = feasible_valid is.graph d p is.sound (machine_of d path) is.plan image of

pub assemblable_short : (d : Datapath) (p : Plan) (image : Image)
    → IsDatapath d
    → IsAssemblable d p
    → IsImageOf d p image
    → IsShort image
assemblable_short d p image path is of = feasible_short is.graph d p is.sound (machine_of d path) is.plan image of

-- its image is valid
pub planned_valid : (d : Datapath) (p : Plan) (image : Image)
    → IsDatapath d
    → IsPlanned d p
    → IsImageOf d p image
    → IsValid image
planned_valid d p image path planned of =
    image_valid planned.graph d p image planned.sound (machine_of d path) planned.plan of

-- what spells it is short
pub planned_short : (d : Datapath) (p : Plan) (image : Image)
    → IsDatapath d
    → IsPlanned d p
    → IsImageOf d p image
    → IsShort image
planned_short d p image path planned of =
    image_short planned.graph d p image planned.sound (machine_of d path) planned.plan of

-- and it runs the solution of the graph
pub planned_runs : (g : Graph) (d : Datapath) (p : Plan) (image : Image)
    → IsDatapath d
    → IsGraph g
    → IsPlan g d p
    → IsImageOf d p image
    → RunsSolution g image
planned_runs g d p image path sound plan of = image_runs_solution g d p image sound (machine_of d path) plan of

-- and each read of it finds its instance
pub planned_finds : (g : Graph) (d : Datapath) (p : Plan) (image : Image)
    → IsDatapath d
    → IsGraph g
    → (plan : IsPlan g d p)
    → IsImageOf d p image
    → FindsInstances plan image
planned_finds g d p image path sound plan of = finds_instances g d p image sound (machine_of d path) plan of
