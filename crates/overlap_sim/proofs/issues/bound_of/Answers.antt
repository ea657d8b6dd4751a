use Rattle.std.proofs.Common.{arith}
use Rattle.microcode_asm.proofs.IssueSteps.{unit_is}
use Rattle.overlap_plan.specs.IsStagePlan.{plan_of}
use Rattle.overlap_sim.proofs.issues.bound_of.Goals as goal

pub index-requires : goal.index-requires
index-requires c = omega (arith, c.requires.node, c.requires.ready.ready.plan.assigned.count)

pub returns-clause-bound : goal.returns-clause-bound
returns-clause-bound c = record {
  node = c.requires.node;
  unit = unit_is c.args.datapath.now (plan_of c.args.plan.now) c.requires.ready.ready c.args.v c.index.result.now
      c.requires.node c.index.ensures;
  stage = c.stage_of.ensures;
}
