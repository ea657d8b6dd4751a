use Rattle.std.proofs.Common.{ℕ, ◌+◌, ◌-◌, ◌∙◌, ap₂, arith}
use Rattle.microcode_asm.proofs.IssueSteps.{unit_is}
use Rattle.microcode_asm.proofs.SampleSteps.{unit_latency, latency_there}
use Rattle.overlap_plan.specs.IsStagePlan.{plan_of}
use Rattle.overlap_sim.proofs.cycles.end_of.Goals as goal

pub index-unit-requires : goal.index-unit-requires
index-unit-requires c = omega (arith, c.requires.node, c.requires.ready.ready.plan.assigned.count)

pub index-requires : goal.index-requires
index-requires c =
    omega (
      arith,
      c.from.ensures,
      unit_is c.args.datapath.now (plan_of c.args.plan.now) c.requires.ready.ready c.args.v c.index-unit.result.now
          c.requires.node c.index-unit.ensures,
      c.requires.ready.ready.plan.feasible.units c.args.v c.requires.node,
    )

pub end_at-requires : goal.end_at-requires
end_at-requires c =
    latency_there c.args.datapath.now (plan_of c.args.plan.now) c.requires.ready.ready c.args.v
    c.index-unit.result.now c.from.result c.index.result.now c.requires.node c.index-unit.ensures c.from.ensures
    c.index.ensures

pub returns : goal.returns
returns c =
    c.end_at.ensures
    ∙ ap₂ (λ (t l : ℕ). t + (l - 1)) c.cycle_of.ensures
    (unit_latency c.args.datapath.now (plan_of c.args.plan.now) c.requires.ready.ready c.args.v
    c.index-unit.result.now c.from.result c.index.result.now c.requires.node c.index-unit.ensures c.from.ensures
    c.index.ensures)
