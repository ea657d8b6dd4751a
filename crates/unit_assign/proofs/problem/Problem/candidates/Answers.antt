use Rattle.std.proofs.Common.{◌≡◌, ◌∙◌, ◌↔◌, ap, subst, arith, ℕ, ◌<◌, ◌≤◌, List, length, slice_index_or}
use Rattle.signal_graph.specs.declared.graph.Edge.{Edge}
use Rattle.signal_graph.specs.declared.graph.Node.{Node}
use Rattle.plan_core.specs.Operands.{node_of, no_edge}
use Rattle.unit_assign.specs.Private.UnitSets.{Has}
use Rattle.unit_assign.specs.Private.Bindings.{HasRouteFrom}
use Rattle.unit_assign.proofs.MissingSteps.{node_is}
use Rattle.unit_assign.proofs.CandidateSteps.{left_begin, left_more, left_all}
use Rattle.unit_assign.proofs.problem.Problem.candidates.Goals as goal

pub loop-port-init : goal.loop-port-init
loop-port-init c =
    left_begin c.args.self.now.datapath.now c.args.self.now.lowered.now.nodes c.args.binding.now.units c.args.v
    c.index-node.result.now c.right_units.result c.index.result.now c.intersection-left.result
    c.args.binding.now.allowed c.requires.next.there c.requires.next.count c.index-node.ensures c.index.ensures
    c.requires.binding.sets c.right_units.ensures c.intersection-left.ensures

pub loop-port-preserved : goal.loop-port-preserved
loop-port-preserved c =
    let d = c.args.self.now.datapath.now in
    let nodes = c.args.self.now.lowered.now.nodes in
    let units = c.args.binding.now.units in
    let k = c.loop-port.port in
    let items = c.deref-edge-items.result.now in
    let edges : items ≡ (node_of nodes c.args.v).edges =
    c.deref-edge-items.ensures
    ∙ ap (λ (n : Node). n.edges) (node_is nodes c.args.v c.index-node.result.now c.requires.next.there
    c.index-node.ensures) in
    let port : k < length (node_of nodes c.args.v).edges =
    subst (λ (es : List Edge). k < length es) edges (omega arith) in
    let reads = ap (λ (es : List Edge). (slice_index_or es k no_edge).node) edges in
    let operand = (slice_index_or items k no_edge).node in
    left_more d nodes units c.args.v k operand c.loop-port.left c.takers-takers.result
    c.intersection-left-in-loop-port.result port reads c.loop-port.invariant
    (λ u inside.
    subst (λ (us : List ℕ). Has c.takers-takers.result u ↔ HasRouteFrom d nodes us c.args.v u k operand)
    c.as_slice.ensures (c.takers-takers.ensures u inside))
    c.intersection-left-in-loop-port.ensures

pub returns : goal.returns
returns c =
    let nodes = c.args.self.now.lowered.now.nodes in
    let edges : c.deref-edge-items.result.now ≡ (node_of nodes c.args.v).edges =
    c.deref-edge-items.ensures
    ∙ ap (λ (n : Node). n.edges) (node_is nodes c.args.v c.index-node.result.now c.requires.next.there
    c.index-node.ensures) in
    left_all c.args.self.now.datapath.now nodes c.args.binding.now.units c.args.v c.loop-port.port c.loop-port.left
    (subst (λ (es : List Edge). length es ≤ c.loop-port.port) edges (omega arith)) c.loop-port.invariant
