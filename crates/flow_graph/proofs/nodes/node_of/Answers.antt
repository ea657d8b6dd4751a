use Rattle.std.proofs.Common.{◌≡◌, ◌∙◌, sym, ap, map, [], if◌then◌else◌}
use Rattle.std.proofs.lemmas.Simd.{map-map}
use Rattle.signal_graph.specs.Rules.{width_of}
use Rattle.flow_graph.specs.Private.Edges.{edge_by}
use Rattle.flow_graph.specs.Private.Sites.{view_made, view_operand}
use Rattle.flow_graph.proofs.NodeSteps.{operation_by}
use Rattle.flow_graph.proofs.nodes.node_of.Goals as goal

pub returns-in_ok-inits_of-in-Operation : goal.returns-in_ok-inits_of-in-Operation
returns-in_ok-inits_of-in-Operation c =
    let edge = edge_by c.args.words.now c.args.places.now c.args.elements.now c.args.first in
    let edges : c.in_ok-edges_of-in-Operation.field-0 ≡ map edge (map view_operand c.in-Operation.operands) =
    c.in_ok-edges_of-in-Operation.ensures ∙ ap (map (λ operand. edge (view_operand operand))) c.as_slice.ensures
    ∙ sym (map-map edge view_operand c.in-Operation.operands) in
    operation_by (width_of c.args.element.now.ty) (if c.args.is_last then c.args.element.now.inits else []) edge
    c.in-Operation.op c.in-Operation.fmt (map view_operand c.in-Operation.operands) (view_made c.args.made.now)
    c.node_format.result c.in_ok-edges_of-in-Operation.field-0 c.in_ok-inits_of-in-Operation.field-0
    c.node_width.result (ap view_made c.in-Operation.is) c.node_format.ensures edges
    c.in_ok-inits_of-in-Operation.ensures c.node_width.ensures
