use Rattle.std.proofs.Common.{map}
use Rattle.flow_graph.specs.Private.Sites.{view_site}
use Rattle.flow_graph.specs.Private.LastPlaces.{LastUpTo}
use Rattle.flow_graph.proofs.elements.last_numbers.Given as goal

abbrev pub invariant-loop-place : goal.invariant-loop-place
invariant-loop-place l = LastUpTo (map view_site l.sites) l.numbers l.elements l.place l.last.items
