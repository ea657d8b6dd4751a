use Rattle.std.proofs.Common.{arith}
use Rattle.microcode_asm.proofs.SampleSteps.{in_nodes, few_buses}
use Rattle.overlap_plan.specs.IsStagePlan.{plan_of}
use Rattle.overlap_sim.proofs.StagedSteps.{more_enables, all_enables}
use Rattle.overlap_sim.proofs.enables.enables.Goals as goal

pub end_stage_of-stage-requires-clause-node : goal.end_stage_of-stage-requires-clause-node
end_stage_of-stage-requires-clause-node c =
    in_nodes c.args.issuer.now.datapath.now (plan_of c.args.issuer.now.plan.now) c.requires.issuer.ready.ready
    c.args.issuer.now.order.now c.requires.issuer.order c.loop-i.i c.index-v.result.now (omega arith)
    c.index-v.ensures

pub index-slot-requires : goal.index-slot-requires
index-slot-requires c =
    omega (
      arith,
      in_nodes c.args.issuer.now.datapath.now (plan_of c.args.issuer.now.plan.now) c.requires.issuer.ready.ready
          c.args.issuer.now.order.now c.requires.issuer.order c.loop-i.i c.index-v.result.now (omega arith)
          c.index-v.ensures,
      c.requires.issuer.ready.ready.slot_count,
    )

pub index-requires : goal.index-requires
index-requires c =
    omega (
      arith,
      in_nodes c.args.issuer.now.datapath.now (plan_of c.args.issuer.now.plan.now) c.requires.issuer.ready.ready
          c.args.issuer.now.order.now c.requires.issuer.order c.loop-i.i c.index-v.result.now (omega arith)
          c.index-v.ensures,
      c.requires.issuer.ready.ready.plan.assigned.count,
    )

pub drive-requires : goal.drive-requires
drive-requires c =
    few_buses c.args.issuer.now.datapath.now (plan_of c.args.issuer.now.plan.now) c.requires.issuer.ready.ready
    c.args.issuer.now.order.now c.requires.issuer.order c.loop-i.i c.index-v.result.now c.index-slot.result.now
    c.as_slice.result.now (omega arith) c.index-v.ensures c.index-slot.ensures c.as_slice.ensures

pub loop-i-preserved : goal.loop-i-preserved
loop-i-preserved c =
    more_enables c.args.issuer.now.datapath.now c.args.issuer.now.plan.now c.requires.issuer.ready
    c.args.issuer.now.order.now c.requires.issuer.order c.args.issuer.now.ended.now c.args.c c.loop-i.i
    c.index-v.result.now c.index-i-in-loop-i.result.now c.index.result.now c.end_stage_of-stage.result
    c.index-slot.result.now c.as_slice.result.now c.loop-i.enables c.drive.new.enables c.requires.issuer.ended
    (omega arith) c.index-v.ensures c.index-slot.ensures c.index.ensures c.end_stage_of-stage.ensures
    c.as_slice.ensures c.in_ok-drive.ensures c.index-i-in-loop-i.ensures c.loop-i.invariant

pub returns : goal.returns
returns c =
    all_enables c.args.issuer.now.datapath.now c.args.issuer.now.plan.now c.requires.issuer.ready
    c.args.issuer.now.order.now c.requires.issuer.order c.args.c c.loop-i.i c.loop-i.enables (omega arith)
    c.loop-i.invariant
