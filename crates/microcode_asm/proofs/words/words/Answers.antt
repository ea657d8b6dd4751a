use Rattle.std.proofs.Common.{arith, sym, subst, ℕ}
use Rattle.microcode_asm.specs.Lifetimes.{AreLifetimes}
use Rattle.microcode_asm.proofs.PlanFacts.{lifetimes_in}
use Rattle.microcode_asm.proofs.words.words.Goals as goal

pub unit_order-requires : goal.unit_order-requires
unit_order-requires c = c.requires.plan.assigned

pub lifetimes_of-requires : goal.lifetimes_of-requires
lifetimes_of-requires c =
    subst (λ (n : ℕ). AreLifetimes n c.args.datapath.now.period c.args.plan.now.arcs) (sym c.len-nodes.ensures)
    (lifetimes_in c.args.datapath.now c.args.plan.now c.requires)
