use Rattle.std.proofs.Common.{◌≡◌, ◌+◌, drop, map}
use Rattle.std.specs.List.{sum_by}
use Rattle.signal_graph.specs.Flat.{view_elem, Element}
use Rattle.signal_graph.specs.Expressions.{operation_count_of_body}
use Rattle.rate_unfold.proofs.faults.operations_of.Given as goal

abbrev pub invariant-loop-element : goal.invariant-loop-element
invariant-loop-element l =
    l.operations
    + sum_by (λ (element : Element). operation_count_of_body element.body)
    (map view_elem (drop l.element-index l.element-items))
    ≡ sum_by (λ (element : Element). operation_count_of_body element.body) (map view_elem l.program.elems)
