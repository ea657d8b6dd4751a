use Rattle.std.proofs.Common.{take, map, replicate, length, false}
use Rattle.signal_graph.specs.Flat.{view_elem}
use Rattle.signal_graph.specs.GraphOf.{are_delayed}
use Rattle.flow_graph.specs.Private.Delayed.{Marks}
use Rattle.flow_graph.proofs.delays.delayed_elements.Given as goal

abbrev pub invariant-loop-element : goal.invariant-loop-element
invariant-loop-element l =
    Marks (replicate (length l.flat.elems) false)
    (λ e. are_delayed e (map view_elem (take l.element-index l.element-items))) l.delayed.items
