use Rattle.std.proofs.Common.{◌≡◌, ◌+◌, ◌∙◌, ℕ, List, Some, length, sym, ap, subst, arith}
use Rattle.std.specs.Prelude.{slice_get, slice_index_or}
use Rattle.std.proofs.lemmas.List.{length-map}
use Rattle.signal_graph.specs.declared.graph.Node.{Node}
use Rattle.signal_graph.specs.Flat.{view}
use Rattle.signal_graph.specs.GraphOf.{Site as Place, sites}
use Rattle.flow_graph.specs.declared.sites.Site.{Site as CodeSite}
use Rattle.flow_graph.specs.Private.NodesBy.{is_made_by, AreMadeUpTo}
use Rattle.flow_graph.specs.Private.Sites.{view_made, view_site}
use Rattle.flow_graph.proofs.AllSites.{site_at}
use Rattle.flow_graph.proofs.NodeSteps.{no_node_more, node_more, all_made}
use Rattle.flow_graph.proofs.nodes.nodes_of_places.Goals as goal
use Rattle.flow_graph.proofs.nodes.nodes_of_places.Goals.{then-is_made+in_ok-node+in_ok-push, else-is_made}

pub loop-index-preserved : goal.loop-index-preserved
loop-index-preserved c =
    let p = view c.args.flat.now in
    let i = c.loop-index.index in
    let s = view_site c.index-sites-index.result in
    let at : slice_get (sites p) i ≡ Some s =
    subst (λ (xs : List Place). slice_get xs i ≡ Some s) c.requires.sites
    (site_at c.args.sites.now i c.index-sites-index.result c.loop-index-test.true c.index-sites-index.is) in
    let is : c.is_made.result ≡ is_made_by (slice_index_or c.args.places.now i 0) (length c.loop-index.nodes) s.made =
    c.is_made.ensures
    ∙ ap (λ (x : CodeSite). is_made_by (slice_index_or c.args.places.now i 0) c.len.result (view_made x.made))
    (sym c.index-sites-index.is)
    ∙ ap (λ (n : ℕ). is_made_by (slice_index_or c.args.places.now i 0) n s.made) c.len.ensures in
    elim c.if-is_made.branch [
      | then-is_made+in_ok-node+in_ok-push w ↦ subst (λ (ns : List Node). AreMadeUpTo p (i + 1) ns) (sym w.nodes-is)
          (node_more p i s at c.args.places.now c.args.words.now c.requires.numbers c.loop-index.nodes
          c.loop-index.invariant c.is_made.result is w.if-is_made.true _ _ (w.in_ok-node.ensures s at)
          w.in_ok-push.ensures.ok)
      | else-is_made w ↦ subst (λ (ns : List Node). AreMadeUpTo p (i + 1) ns) (sym w.nodes-is)
          (no_node_more p i s at c.args.places.now c.args.words.now c.requires.numbers c.loop-index.nodes
          c.loop-index.invariant c.is_made.result is w.if-is_made.false)
    ]

pub returns : goal.returns
returns c =
    let p = view c.args.flat.now in
    let size = length-map c.args.sites.now view_site in
    let same = ap (λ (xs : List Place). length xs) c.requires.sites in
    all_made p c.loop-index.index c.loop-index.nodes (omega arith) c.loop-index.invariant
