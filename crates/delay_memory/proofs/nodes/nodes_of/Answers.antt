use Rattle.std.proofs.Common.{◌≡◌, ◌<◌, subst, arith, length, ℕ}
use Rattle.delay_memory.specs.Private.Nodes.{AreMadeBefore}
use Rattle.delay_memory.proofs.Stored.{count_few}
use Rattle.delay_memory.proofs.NodeSteps.{edges_laid}
use Rattle.delay_memory.proofs.CopySteps.{left_node, left_more, next_inside, number_fits, offset_fits, next_with}
use Rattle.delay_memory.proofs.CopySteps.{next_without, nodes_without, nodes_with}
use Rattle.delay_memory.proofs.nodes.nodes_of.Goals as goal

pub own_node-requires-clause-edges : goal.own_node-requires-clause-edges
own_node-requires-clause-edges c =
    let count = c.loop-v.invariant.left.count in
    let there : c.loop-v.v < length c.args.graph.nodes = omega arith in
    edges_laid c.args.graph c.requires.sound c.args.layout.now.target.now.hold c.args.layout.now.delays.now
    c.requires.laid_out.long c.loop-v.v c.replace-node.result there
    (left_node c.args.graph c.loop-v.v c.loop-v.left c.loop-v.invariant.left c.replace-node.result there
    c.replace-node.ensures.before)

pub loop-v-preserved-then-is_empty : goal.loop-v-preserved-then-is_empty
loop-v-preserved-then-is_empty c =
    let y = c.args.layout.now in
    let t = y.target.now in
    let count = c.loop-v.invariant.left.count in
    let there : c.loop-v.v < length c.args.graph.nodes = omega arith in
    let none : length c.index-delays.result.now ≡ 0 = grind (arith, c.if-is_empty.ensures) in
    record {
      next = next_without t.hold t.spare c.args.graph t.datapath.now y.delays.now y.numbers.now y.lines.now
          c.requires.laid_out
          c.loop-v.v there c.index-delays.result.now c.index-delays.ensures c.loop-v.next c.loop-v.invariant.next none;
      nodes = nodes_without t.hold t.spare c.args.graph t.datapath.now y.delays.now y.numbers.now y.lines.now
          c.requires.laid_out
          c.loop-v.v there c.index-delays.result.now c.index-delays.ensures c.loop-v.nodes c.push.new.self
          c.replace-node.result c.own_node.result c.loop-v.invariant.nodes
          (left_node c.args.graph c.loop-v.v c.loop-v.left c.loop-v.invariant.left c.replace-node.result there
          c.replace-node.ensures.before) c.own_node.ensures c.in_ok-push.ensures.ok none;
      left = left_more c.args.graph c.loop-v.v c.loop-v.left c.loop-v.invariant.left c.no_node.result
          c.replace-node.new.self c.replace-node.ensures.after;
    }

pub loop-v-preserved : goal.loop-v-preserved
loop-v-preserved c =
    let y = c.args.layout.now in
    let t = y.target.now in
    let count = c.loop-v.invariant.left.count in
    let there : c.loop-v.v < length c.args.graph.nodes = omega arith in
    let some : 0 < length c.index-delays.result.now = grind (arith, c.if-is_empty.ensures) in
    record {
      next = next_with t.hold t.spare c.args.graph t.datapath.now y.delays.now y.numbers.now y.lines.now
          c.requires.laid_out
          c.loop-v.v there c.index-delays.result.now c.index-delays.ensures c.loop-v.next c.loop-v.invariant.next some;
      nodes = nodes_with t.hold t.spare c.args.graph t.datapath.now y.delays.now y.numbers.now y.lines.now
          c.requires.laid_out
          c.loop-v.v there c.index-delays.result.now c.index-delays.ensures c.loop-v.nodes c.push.new.self
          c.replace-node.result c.own_node.result c.loop-v.invariant.nodes
          (left_node c.args.graph c.loop-v.v c.loop-v.left c.loop-v.invariant.left c.replace-node.result there
          c.replace-node.ensures.before) c.own_node.ensures c.in_ok-push.ensures.ok c.loop-v.next c.index.result.now
          c.add_line.new.nodes c.loop-v.invariant.next some c.index.ensures c.in_ok-add_line.ensures;
      left = left_more c.args.graph c.loop-v.v c.loop-v.left c.loop-v.invariant.left c.no_node.result
          c.replace-node.new.self c.replace-node.ensures.after;
    }

pub index-requires : goal.index-requires
index-requires c =
    let y = c.args.layout.now in
    let t = y.target.now in
    let count = c.loop-v.invariant.left.count in
    let there : c.loop-v.v < length c.args.graph.nodes = omega arith in
    let some : 0 < length c.index-delays.result.now = grind (arith, c.if-is_empty.ensures) in
    next_inside t.hold t.spare c.args.graph t.datapath.now y.delays.now y.numbers.now y.lines.now c.requires.laid_out
    c.loop-v.v
    there c.index-delays.result.now c.index-delays.ensures c.loop-v.next c.loop-v.invariant.next some

pub add_line-requires-clause-number : goal.add_line-requires-clause-number
add_line-requires-clause-number c =
    let y = c.args.layout.now in
    let t = y.target.now in
    let count = c.loop-v.invariant.left.count in
    let there : c.loop-v.v < length c.args.graph.nodes = omega arith in
    let some : 0 < length c.index-delays.result.now = grind (arith, c.if-is_empty.ensures) in
    number_fits t.hold t.spare c.args.graph t.datapath.now y.delays.now y.numbers.now y.lines.now c.requires.laid_out
    c.loop-v.v
    there c.index-delays.result.now c.index-delays.ensures c.loop-v.next c.index.result.now
    c.loop-v.invariant.next some c.index.ensures

pub add_line-requires-clause-offset : goal.add_line-requires-clause-offset
add_line-requires-clause-offset c =
    let y = c.args.layout.now in
    let t = y.target.now in
    let count = c.loop-v.invariant.left.count in
    let there : c.loop-v.v < length c.args.graph.nodes = omega arith in
    let some : 0 < length c.index-delays.result.now = grind (arith, c.if-is_empty.ensures) in
    offset_fits t.hold t.spare c.args.graph t.datapath.now y.delays.now y.numbers.now y.lines.now c.requires.laid_out
    c.loop-v.v
    there c.index-delays.result.now c.index-delays.ensures c.requires.path c.loop-v.next c.index.result.now
    c.loop-v.invariant.next some c.index.ensures

pub overflow_add-next : goal.overflow_add-next
overflow_add-next c =
    let few = count_few c.args.layout.now.delays.now c.loop-v.v in
    let count = c.requires.laid_out.layout.few.count in
    let next = c.loop-v.invariant.next in
    omega (arith, few, count, next)

pub returns : goal.returns
returns c =
    let count = c.loop-v.invariant.left.count in
    let all : c.loop-v.v ≡ length c.args.graph.nodes = omega arith in
    subst (λ (n : ℕ). AreMadeBefore c.args.layout.now.target.now.hold c.args.graph
    c.args.layout.now.target.now.datapath.now c.args.layout.now.delays.now
    c.args.layout.now.lines.now n c.loop-v.nodes) all c.loop-v.invariant.nodes
