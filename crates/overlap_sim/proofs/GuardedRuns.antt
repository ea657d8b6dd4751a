-- The guarded image of a feasible plan of several stages runs the solution of its graph, so many samples late.
use Rattle.std.proofs.Common.{◌≡◌, ℕ, ◌+◌, ◌-◌, ap, sym, ◌∙◌, pos, subst}
use Rattle.fix_word.specs.declared.operation.Op.{Op}
use Rattle.fix_word.specs.declared.operation.Op.TheVariants as op
use Rattle.datapath.specs.declared.types.Datapath.{Datapath}
use Rattle.signal_graph.specs.GraphRules.{IsGraph}
use Rattle.signal_graph.specs.Operations.{IsOfGraphs, class_of}
use Rattle.signal_graph.specs.declared.graph.Node.{Node}
use Rattle.signal_graph.specs.declared.graph.Graph.{Graph}
use Rattle.plan_core.specs.Lowered.{Origin, own, address, store, load, IsNumber, IsLoweredOver, IsOwnOver, IsAddress}
use Rattle.plan_core.specs.Operands.{node_of}
use Rattle.plan_core.specs.declared.plan.Plan.{Plan}
use Rattle.plan_soundness.specs.Units.{AreOnRightUnits}
use Rattle.plan_soundness.specs.Feasible.{IsFeasiblePlanOver}
use Rattle.plan_soundness.specs.Parts.{node_at}
use Rattle.plan_soundness.specs.Run.{RunsSolutionLate}
use Rattle.plan_soundness.proofs.FromLowered.{made_at, made_as, own_below, graph_node, load_op, store_op}
use Rattle.plan_soundness.proofs.RunsSolution.{executed_runs}
use Rattle.overlap_sim.specs.declared.guarded.Guarded.{Guarded}
use Rattle.overlap_sim.specs.Guarded.{of_guarded}
use Rattle.overlap_sim.specs.GuardedOf.{overlap_of, IsGuardedOf}
use Rattle.overlap_sim.proofs.GuardedExecutes.{HasOffsets, executes_guarded}

-- a graph has no addresses
no_address : (o : Op) → IsOfGraphs (class_of o) → o ≡ op.Addr → ⊥
no_address o of is = let none : IsOfGraphs (class_of op.Addr) = subst (λ o. IsOfGraphs (class_of o)) is of in none

module _ {hold spare : ℕ} (g : Graph) (d : Datapath) (p : Plan) (sound : IsGraph g)
    (lowered : IsLoweredOver hold spare g d p.assigned.lowered) (assigned : AreOnRightUnits d p.assigned) where
  -- the offsets of a lowered list are natural numbers
  pub offsets_of : HasOffsets p
  offsets_of i in-i is =
      let at = made_at g d p sound lowered assigned i in-i in by at.origin at.number
    where
      by : (o : Origin) → IsNumber lowered.delays o i → (offset : ℕ) × ((node_at p i).arg ≡ pos offset)
      by (own v) number =
          let made : IsOwnOver g d p.assigned.lowered lowered.delays hold v (node_at p i) =
          made_as g d p sound lowered assigned (own v) i number in
          let node = graph_node g d p sound lowered assigned v (own_below g d p sound lowered assigned v i number) in
          absurd (no_address (node_of g.nodes v).op node.operation (sym (ap (λ (node : Node). node.op) made.rest) ∙ is))
      by (address v ago) number =
          let made : IsAddress g d p.assigned.lowered lowered.delays v ago (node_at p i) =
          made_as g d p sound lowered assigned (address v ago) i number in
          (made.line.offset + ago, ap (λ (node : Node). node.arg) made.is)
      by (store v) number = let stores = store_op g d p sound lowered assigned v i number in absurd (cc)
      by (load v ago) number = let loads = load_op g d p sound lowered assigned v ago i number in absurd (cc)

-- on every stream it runs without a conflict, and its rows are those of the solution, all but one of the stages late
pub guarded_runs : {hold spare : ℕ} (stages : ℕ) (g : Graph) (d : Datapath) (p : Plan) (guarded : Guarded)
    → IsGraph g
    → IsFeasiblePlanOver (overlap_of stages) hold spare g d p
    → IsGuardedOf stages d p guarded
    → RunsSolutionLate (stages - 1) g (of_guarded guarded)
guarded_runs stages g d p guarded sound plan is =
    executed_runs g d p sound plan (of_guarded guarded) is.outs
    (executes_guarded stages d p plan.feasible (offsets_of g d p sound plan.lowered plan.assigned) guarded is)
