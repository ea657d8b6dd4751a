use Rattle.signal_graph.specs.Flat.{view}
use Rattle.signal_graph.proofs.GraphSound.{graph_is_sound}
use Rattle.signal_graph.proofs.GraphLoopless.{graph_is_loopless}
use Rattle.flow_graph.proofs.PrunedGraphs.{keeps_rows}
use Rattle.flow_graph.proofs.graph.pruned_graph.Goals as goal

pub prune_owned-requires-clause-sound : goal.prune_owned-requires-clause-sound
prune_owned-requires-clause-sound c =
    graph_is_sound (view c.args.flat.now) c.in_ok-whole.whole c.in_ok-whole.ensures c.requires.sound

pub prune_owned-requires-clause-loopless : goal.prune_owned-requires-clause-loopless
prune_owned-requires-clause-loopless c =
    graph_is_loopless (view c.args.flat.now) c.requires.sound c.requires.loopless c.in_ok-whole.whole
    c.in_ok-whole.ensures

pub returns-clause-graph : goal.returns-clause-graph
returns-clause-graph c = record {
  whole = c.in_ok-whole.whole;
  graph_of = c.in_ok-whole.ensures;
  pruned = c.in_ok-prune_owned.ensures.pruned;
}

pub returns-clause-keeps : goal.returns-clause-keeps
returns-clause-keeps c =
    keeps_rows (view c.args.flat.now) c.in_ok-prune_owned.field-0 c.requires.sound c.requires.loopless
    (returns-clause-graph c)
