use Rattle.std.proofs.Common.{map}
use Rattle.flow_graph.specs.Private.Sites.{view_site}
use Rattle.flow_graph.proofs.NumberSteps.{NumbersSoFar}
use Rattle.flow_graph.proofs.numbers.number_all.Given as goal

abbrev pub invariant-loop-site : goal.invariant-loop-site
invariant-loop-site l = NumbersSoFar (map view_site l.sites) l.site-index l.numbering.words l.numbering.count l.places
