use Rattle.std.proofs.Common.{◌≡◌, ◌-◌, ◌%◌, ◌∙◌, ap, arith, length}
use Rattle.plan_soundness.specs.Parts.{cycle_at, ends_at}
use Rattle.bucket_sort.proofs.Linked.{one_linked}
use Rattle.microcode_asm.specs.Private.Words.{node_in}
use Rattle.microcode_asm.proofs.SampleSteps.{node_is, in_nodes}
use Rattle.overlap_plan.specs.IsStagePlan.{plan_of}
use Rattle.overlap_sim.specs.Private.Staged.{issued_in, ended_in}
use Rattle.overlap_sim.proofs.StageFacts.{period_some, in_period}
use Rattle.overlap_sim.proofs.cycles.node_cycles.Goals as goal

pub cycle_of-requires-clause-node : goal.cycle_of-requires-clause-node
cycle_of-requires-clause-node c =
    in_nodes c.args.datapath.now (plan_of c.args.plan.now) c.requires.ready.ready c.args.order.now c.requires.order
    (c.loop-i.i - 1) c.index-v.result.now (omega arith) c.index-v.ensures

pub end_of-requires-clause-node : goal.end_of-requires-clause-node
end_of-requires-clause-node c =
    in_nodes c.args.datapath.now (plan_of c.args.plan.now) c.requires.ready.ready c.args.order.now c.requires.order
    (c.loop-i.i - 1) c.index-v.result.now (omega arith) c.index-v.ensures

pub around-requires : goal.around-requires
around-requires c = period_some c.args.datapath.now c.args.plan.now c.requires.ready

pub put_first-requires-clause-bucket : goal.put_first-requires-clause-bucket
put_first-requires-clause-bucket c =
    omega (
      arith,
      c.around.ensures,
      in_period c.args.datapath.now c.args.plan.now c.requires.ready c.from-cycle.result,
      c.loop-i.invariant.issued.first_count,
    )

pub put_first-requires-in-loop-i-clause-bucket : goal.put_first-requires-in-loop-i-clause-bucket
put_first-requires-in-loop-i-clause-bucket c =
    omega (
      arith,
      c.around-in-loop-i.ensures,
      in_period c.args.datapath.now c.args.plan.now c.requires.ready c.end_of.result,
      c.loop-i.invariant.ended.first_count,
    )

pub loop-i-preserved : goal.loop-i-preserved
loop-i-preserved c =
    let d = c.args.datapath.now in
    let p = plan_of c.args.plan.now in
    let order = c.args.order.now in
    let i = c.loop-i.i - 1 in
    let is : c.index-v.result.now ≡ node_in order i =
    node_is d p c.requires.ready.ready order c.requires.order i c.index-v.result.now (omega arith)
    c.index-v.ensures in
    record {
      issued = one_linked (issued_in d p order) d.period (length order) i c.loop-i.i c.around.result c.loop-i.issued
          c.put_first.new.self (omega arith) (omega arith)
          (c.around.ensures
          ∙ ap (λ t. t % d.period) (c.from-cycle.ensures ∙ c.cycle_of.ensures ∙ ap (cycle_at p) is))
          (in_period d c.args.plan.now c.requires.ready (cycle_at p (node_in order i))) c.put_first.ensures.first
          c.put_first.ensures.next c.loop-i.invariant.issued;
      ended = one_linked (ended_in d p order) d.period (length order) i c.loop-i.i c.around-in-loop-i.result
          c.loop-i.ended c.put_first-in-loop-i.new.self (omega arith) (omega arith)
          (c.around-in-loop-i.ensures
          ∙ ap (λ t. t % d.period) (c.end_of.ensures ∙ ap (ends_at d p) is))
          (in_period d c.args.plan.now c.requires.ready (ends_at d p (node_in order i)))
          c.put_first-in-loop-i.ensures.first c.put_first-in-loop-i.ensures.next c.loop-i.invariant.ended;
    }
