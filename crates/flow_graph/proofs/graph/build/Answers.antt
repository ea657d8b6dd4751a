use Rattle.std.proofs.Common.{subst}
use Rattle.signal_graph.specs.Flat.{view}
use Rattle.signal_graph.proofs.GraphSound.{graph_is_sound}
use Rattle.signal_graph.proofs.GraphLoopless.{graph_is_loopless}
use Rattle.signal_graph.proofs.GraphKeeps.{graph_keeps}
use Rattle.flow_graph.specs.Loops.{IsLoopIn}
use Rattle.flow_graph.proofs.graph.build.Goals as goal

pub returns-clause-sound : goal.returns-clause-sound
returns-clause-sound c =
    graph_is_sound (view c.args.flat.now) c.in_ok-graph_of.field-0 c.in_ok-graph_of.ensures c.requires

pub returns-clause-loopless : goal.returns-clause-loopless
returns-clause-loopless c =
    let p = view c.args.flat.now in
    let none = subst (IsLoopIn p) c.in_default.is c.in_ok-elem.ensures in
    graph_is_loopless p c.requires none c.in_ok-graph_of.field-0 c.in_ok-graph_of.ensures

pub returns-clause-keeps : goal.returns-clause-keeps
returns-clause-keeps c =
    let p = view c.args.flat.now in
    let none = subst (IsLoopIn p) c.in_default.is c.in_ok-elem.ensures in
    graph_keeps p c.in_ok-graph_of.field-0 c.in_ok-graph_of.ensures c.requires none
