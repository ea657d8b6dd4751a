use Rattle.std.proofs.Common.{arith, ℕ, ◌+◌, ◌<◌, ◌∙◌, ap₂, subst, length, List}
use Rattle.plan_core.specs.declared.registers.Arc.{Arc}
use Rattle.microcode_asm.proofs.IssueSteps.{some_arc, register_room}
use Rattle.overlap_plan.specs.IsStagePlan.{plan_of}
use Rattle.overlap_sim.proofs.StagedSteps.{port_register}
use Rattle.overlap_sim.proofs.issues.Issuer.operand_register.Goals as goal

pub lifetime_at-k-requires-clause-there : goal.lifetime_at-k-requires-clause-there
lifetime_at-k-requires-clause-there c =
    some_arc c.args.self.now.datapath.now (plan_of c.args.self.now.plan.now) c.requires.issuer.ready.ready
    c.args.bound.node c.args.port c.args.bound.unit c.args.edge c.as_slice.result.now c.requires.bound.node
    c.requires.port c.requires.edge c.requires.bound.unit c.as_slice.ensures

pub index-requires-3 : goal.index-requires-3
index-requires-3 c = (
  omega arith,
  register_room c.args.self.now.datapath.now (plan_of c.args.self.now.plan.now) c.requires.issuer.ready.ready
      c.lifetime_at-k.result c.copy_ago-copy.result c.index.result.now c.index-2.result.now
      (subst (λ (arcs : List Arc). c.lifetime_at-k.result < length arcs) c.as_slice.ensures
      c.lifetime_at-k.ensures.there)
      c.index.ensures c.index-2.ensures c.copy_ago-copy.ensures.there,
)

pub returns : goal.returns
returns c =
    port_register c.args.self.now.datapath.now c.args.self.now.plan.now c.requires.issuer.ready c.args.bound c.args.m
    c.args.port c.lifetime_at-k.result c.copy_ago-copy.result c.index-3.result.now c.from-shift.result
    (c.from.result + c.from-2.result) c.args.edge c.as_slice.result.now c.index.result.now c.index-2.result.now
    c.requires.bound c.requires.port c.requires.edge c.as_slice.ensures c.lifetime_at-k.ensures c.index.ensures
    (c.from-shift.ensures ∙ c.shift_of.ensures) (ap₂ (λ (a b : ℕ). a + b) c.from.ensures c.from-2.ensures)
    c.copy_ago-copy.ensures c.index-2.ensures c.index-3.ensures
