use Rattle.std.proofs.Common.{◌<◌, ◌∙◌, ap, sym, subst, length}
use Rattle.plan_core.specs.declared.registers.Arc.{Arc}
use Rattle.plan_soundness.specs.Parts.{nodes_of, ends_at}
use Rattle.microcode_asm.proofs.IssueSteps.{arc_is}
use Rattle.overlap_plan.specs.IsStagePlan.{plan_of}
use Rattle.overlap_sim.specs.GuardedOf.{stage_of}
use Rattle.overlap_sim.proofs.cycles.shift_of.Goals as goal

pub end_stage_of-requires-clause-node : goal.end_stage_of-requires-clause-node
end_stage_of-requires-clause-node c =
    let p = plan_of c.args.plan.now in
    subst (λ (a : Arc). a.node < length (nodes_of p))
    (sym (arc_is c.args.datapath.now p c.requires.ready.ready c.args.k c.index.result.now c.requires.there
    c.index.ensures))
    (c.requires.ready.ready.plan.feasible.arcs c.args.k c.requires.there).node

pub returns : goal.returns
returns c =
    let p = plan_of c.args.plan.now in
    c.end_stage_of.ensures
    ∙ ap (λ (a : Arc). stage_of c.args.datapath.now (ends_at c.args.datapath.now p a.node))
    (arc_is c.args.datapath.now p c.requires.ready.ready c.args.k c.index.result.now c.requires.there
    c.index.ensures)
