use Rattle.std.proofs.Common.{◌≡◌, ◌++◌, map, take}
use Rattle.signal_graph.specs.Flat.{view_elem}
use Rattle.rate_unfold.specs.Private.Limits.{rates_of}
use Rattle.rate_unfold.specs.Private.Unfolding.{element_in_phase}
use Rattle.rate_unfold.proofs.phases.put_elements.Given as goal

abbrev pub invariant-loop-element : goal.invariant-loop-element
invariant-loop-element l =
    map view_elem l.unfolded
    ≡ map view_elem l.fn.unfolded
    ++ map (element_in_phase (rates_of l.phase) l.phase.elements l.phase.number)
    (map view_elem (take l.element-index l.elems))
