use Rattle.std.proofs.Common.{◌<◌, ◌+◌, sym, subst, arith, length}
use Rattle.plan_core.specs.Operands.{no_edge}
use Rattle.delay_memory.specs.Private.Nodes.{IsLaid}
use Rattle.delay_memory.proofs.NodeSteps.{AreLoweredBefore, lowered_none, old_edge, lowered_more, lowered_all}
use Rattle.delay_memory.proofs.nodes.lower_edges.Goals as goal

pub loop-port-init : goal.loop-port-init
loop-port-init c =
    lowered_none c.args.layout.now.target.now.hold c.args.layout.now.delays.now c.args.edges.now

pub edge_for-edge-requires-clause-edge : goal.edge_for-edge-requires-clause-edge
edge_for-edge-requires-clause-edge c =
    let hold = c.args.layout.now.target.now.hold in
    let delays = c.args.layout.now.delays.now in
    let count = c.loop-port.invariant.count in
    let there : c.loop-port.port < length c.args.edges.now = omega arith in
    subst (IsLaid hold delays)
    (sym (old_edge hold delays c.args.edges.now c.loop-port.port c.loop-port.edges c.loop-port.invariant
    c.index.result.now (omega arith) c.index.ensures))
    (c.requires.edges c.loop-port.port no_edge there)

pub loop-port-preserved : goal.loop-port-preserved
loop-port-preserved c =
    let count = c.loop-port.invariant.count in
    subst (AreLoweredBefore c.args.layout.now.target.now.hold c.args.layout.now.delays.now (c.loop-port.port + 1)
    c.args.edges.now)
    (sym c.set.ensures)
    (lowered_more c.args.layout.now.target.now.hold c.args.layout.now.delays.now c.args.edges.now c.loop-port.port
    c.loop-port.edges c.loop-port.invariant c.index.result.now c.edge_for-edge.result (omega arith) c.index.ensures
    c.edge_for-edge.ensures)

pub returns : goal.returns
returns c =
    lowered_all c.args.layout.now.target.now.hold c.args.layout.now.delays.now c.args.edges.now c.loop-port.port
    c.loop-port.edges c.loop-port.invariant (omega arith)
