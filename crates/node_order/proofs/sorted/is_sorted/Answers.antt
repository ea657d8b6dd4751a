use Rattle.std.proofs.Common.{rules, arith}
use Rattle.node_order.proofs.Operands.{sorted_more}
use Rattle.node_order.proofs.sorted.is_sorted.Goals as goal

pub loop-v-preserved : goal.loop-v-preserved
loop-v-preserved c =
    sorted_more c.args.nodes.now c.loop-v.v c.index-nodes-v.result c.loop-v-test.true c.index-nodes-v.is
    c.loop-v.invariant (c.is_behind_operands.ensures (search rules))

pub returns : goal.returns
returns c is v u less h = c.loop-v.invariant v u (omega arith) h
