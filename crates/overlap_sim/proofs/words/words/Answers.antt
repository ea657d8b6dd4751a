use Rattle.std.proofs.Common.{ℕ, sym, subst}
use Rattle.microcode_asm.specs.Lifetimes.{AreLifetimes}
use Rattle.microcode_asm.proofs.PlanFacts.{lifetimes_in}
use Rattle.overlap_plan.specs.IsStagePlan.{plan_of}
use Rattle.overlap_sim.proofs.words.words.Goals as goal

pub unit_order-requires : goal.unit_order-requires
unit_order-requires c = c.requires.ready.plan.assigned

pub lifetimes_of-requires : goal.lifetimes_of-requires
lifetimes_of-requires c =
    subst (λ (nodes : ℕ). AreLifetimes nodes c.args.datapath.now.period c.args.plan.now.arcs) (sym c.len-nodes.ensures)
    (lifetimes_in c.args.datapath.now (plan_of c.args.plan.now) c.requires.ready)
