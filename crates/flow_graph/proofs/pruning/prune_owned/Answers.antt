use Rattle.signal_graph.proofs.PrunedSound.{pruned_is_sound, pruned_is_loopless}
use Rattle.signal_graph.proofs.PrunedKeeps.{pruned_keeps}
use Rattle.flow_graph.proofs.WholeGraphs.{whole_is_pruned}
use Rattle.flow_graph.proofs.pruning.prune_owned.Goals as goal

pub returns-clause-sound : goal.returns-clause-sound
returns-clause-sound c = pruned_is_sound c.args.graph _ c.requires.sound c.in_ok-marked_graph.ensures

pub returns-clause-loopless : goal.returns-clause-loopless
returns-clause-loopless c =
    pruned_is_loopless c.args.graph _ c.requires.sound c.in_ok-marked_graph.ensures c.requires.loopless

pub returns-clause-keeps : goal.returns-clause-keeps
returns-clause-keeps c =
    pruned_keeps c.args.graph _ c.requires.sound c.requires.loopless c.in_ok-marked_graph.ensures

pub returns-then-are_all_marked-clause-pruned : goal.returns-then-are_all_marked-clause-pruned
returns-then-are_all_marked-clause-pruned c =
    whole_is_pruned c.args.graph c.in_ok-marks.marks c.in_ok-marks.ensures c.requires.sound
    (c.are_all_marked.ensures c.if-are_all_marked.true)

pub returns-then-are_all_marked-clause-keeps : goal.returns-then-are_all_marked-clause-keeps
returns-then-are_all_marked-clause-keeps c =
    pruned_keeps c.args.graph _ c.requires.sound c.requires.loopless (returns-then-are_all_marked-clause-pruned c)
