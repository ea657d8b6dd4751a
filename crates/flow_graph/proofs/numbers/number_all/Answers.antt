use Rattle.std.proofs.Common.{arith}
use Rattle.std.proofs.lemmas.List.{length-map}
use Rattle.flow_graph.specs.Private.Sites.{view_site}
use Rattle.flow_graph.proofs.AllSites.{site_at}
use Rattle.flow_graph.proofs.NumberSteps.{none_numbered, one_numbered, all_numbered}
use Rattle.flow_graph.proofs.numbers.number_all.Goals as goal

pub loop-site-init : goal.loop-site-init
loop-site-init c = none_numbered _ _ _ c.new.ensures c.in_ok-places.ensures

pub loop-site-preserved : goal.loop-site-preserved
loop-site-preserved c =
    one_numbered _ _ _ _ _ _ _ _ _ _
    (site_at c.args.sites.now c.loop-site.site-index c.site-item.result c.loop-site-test.true c.site-item.is)
    c.in_ok-number.ensures c.in_ok-push.ensures.ok c.loop-site.invariant

pub returns : goal.returns
returns c =
    let size = length-map c.args.sites.now view_site in
    all_numbered _ _ _ _ _ (omega arith) c.loop-site.invariant
