use Rattle.std.proofs.Common.{◌≡◌, ◌∙◌, ap, subst, arith, ◌<◌, List, length, slice_index_or}
use Rattle.signal_graph.specs.declared.graph.Edge.{Edge}
use Rattle.signal_graph.specs.declared.graph.Node.{Node}
use Rattle.plan_core.specs.Operands.{node_of, no_edge}
use Rattle.unit_assign.proofs.MissingSteps.{node_is, operand_there}
use Rattle.unit_assign.proofs.BindingSteps.{narrowed_more}
use Rattle.unit_assign.proofs.binding.narrow.Goals as goal

pub loop-port-preserved : goal.loop-port-preserved
loop-port-preserved c =
    let nodes = c.args.problem.now.lowered.now.nodes in
    let edges : c.deref-edge-items.result.now ≡ (node_of nodes c.args.v).edges =
    c.deref-edge-items.ensures
    ∙ ap (λ (n : Node). n.edges) (node_is nodes c.args.v c.index.result.now c.requires.node c.index.ensures) in
    let port : c.loop-port.port < length (node_of nodes c.args.v).edges =
    subst (λ (es : List Edge). c.loop-port.port < length es) edges (omega arith) in
    let reads = ap (λ (es : List Edge). (slice_index_or es c.loop-port.port no_edge).node) edges in
    let there = operand_there c.args.problem.now.lowered.now c.requires.problem.wired c.args.v c.loop-port.port
    c.requires.node port in
    let count = c.loop-port.invariant.count in
    narrowed_more c.args.problem.now.datapath.now nodes c.args.v c.args.unit c.loop-port.port c.args.allowed.now
    c.loop-port.allowed c.index-in-loop-port.result.now c.drivers.result c.intersection-narrowed.result
    (slice_index_or c.deref-edge-items.result.now c.loop-port.port no_edge).node c.loop-port.invariant port reads
    (omega arith) c.index-in-loop-port.ensures c.intersection-narrowed.ensures c.drivers.ensures
