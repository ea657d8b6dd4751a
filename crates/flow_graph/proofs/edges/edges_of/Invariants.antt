use Rattle.std.proofs.Common.{◌≡◌, map, take}
use Rattle.flow_graph.specs.Private.Edges.{edge_by}
use Rattle.flow_graph.specs.Private.Sites.{view_operand}
use Rattle.flow_graph.proofs.edges.edges_of.Given as goal

abbrev pub invariant-loop-operand : goal.invariant-loop-operand
invariant-loop-operand l =
    l.edges ≡ map (λ operand. edge_by l.words l.places l.elements l.first (view_operand operand))
    (take l.operand-index l.operands)
