use Rattle.std.proofs.Common.{arith, length, ◌<◌}
use Rattle.std.specs.Prelude.{slice_index_or}
use Rattle.plan_core.specs.Operands.{no_edge}
use Rattle.delay_memory.proofs.ReadSteps.{edge_at, reads_more}
use Rattle.delay_memory.proofs.delays.add_reads.Goals as goal

pub add_read-requires : goal.add_read-requires
add_read-requires c =
    let items = c.deref-edge-items.result.now in
    let k = c.loop-edge.edge-index in
    let less : k < length items = omega arith in
    let e = edge_at c.args.graph.now c.requires.sound c.args.c k c.index.result.now items c.requires.node
    c.index.ensures
    c.deref-edge-items.ensures less in
    let there = e.1.1 in
    let count = c.loop-edge.invariant.count in
    omega (arith, there, count)

pub loop-edge-preserved : goal.loop-edge-preserved
loop-edge-preserved c =
    let items = c.deref-edge-items.result.now in
    let k = c.loop-edge.edge-index in
    let less : k < length items = omega arith in
    let e = edge_at c.args.graph.now c.requires.sound c.args.c k c.index.result.now items c.requires.node
    c.index.ensures
    c.deref-edge-items.ensures less in
    reads_more c.args.graph.now c.args.hold c.args.c k (slice_index_or items k no_edge) c.loop-edge.reads
    c.add_read.new.reads c.loop-edge.invariant e.0 e.1.0 e.1.1 c.in_ok-add_read.ensures
