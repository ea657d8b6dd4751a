use Rattle.std.proofs.Common.{◌≡◌, map}
use Rattle.signal_graph.specs.Flat.{view}
use Rattle.flow_graph.specs.Private.Sites.{view_site}
use Rattle.flow_graph.proofs.AllSites.{sites_of_first}
use Rattle.flow_graph.proofs.sites.sites_of.Given as goal

abbrev pub invariant-loop-elem : goal.invariant-loop-elem
invariant-loop-elem l = map view_site l.list ≡ sites_of_first (view l.flat) l.elem
