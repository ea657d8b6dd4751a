use Rattle.std.proofs.Common.{◌≡◌, [], map}
use Rattle.std.specs.List.{flat_map, range_with_len}
use Rattle.signal_graph.specs.Flat.{view, view_elem}
use Rattle.rate_unfold.specs.Private.Unfolding.{elements_in_phase}
use Rattle.rate_unfold.proofs.program.elements_of_phases.Given as goal

abbrev pub invariant-loop-number : goal.invariant-loop-number
invariant-loop-number l =
    map view_elem l.elems
    ≡ flat_map (elements_in_phase (record { phases = l.m; down = []; up = l.up }) (view l.f).elems)
    (range_with_len 0 l.number)
