use Rattle.std.proofs.Common.{arith, length, ◌<◌}
use Rattle.std.specs.Prelude.{slice_index_or}
use Rattle.plan_core.specs.Operands.{no_edge}
use Rattle.schedule_priority.proofs.Problems.{read_at, operand_in}
use Rattle.schedule_priority.proofs.Readers.{adds_step}
use Rattle.schedule_priority.proofs.destinations.add_reads.Goals as goal

pub loop-port-preserved : goal.loop-port-preserved
loop-port-preserved c =
    let a = c.args.problem.now.assigned.now in
    let items = c.deref-edge-items.result.now in
    let k = c.loop-port.port in
    let less : k < length items = omega arith in
    let reads = read_at a.lowered.nodes c.args.c k c.node.result.now items c.node.ensures c.deref-edge-items.ensures
    less in
    let there = operand_in c.args.problem.now.datapath.now a c.requires.problem c.args.c k
    (slice_index_or items k no_edge).node reads in
    let count = c.loop-port.invariant.count in
    adds_step a c.args.c k (slice_index_or items k no_edge).node c.args.readers.now c.loop-port.readers
    c.index.result.now c.with_port-more.result c.unit-unit.result c.loop-port.invariant reads (omega arith)
    c.index.ensures c.unit-unit.ensures.unit c.with_port-more.ensures
