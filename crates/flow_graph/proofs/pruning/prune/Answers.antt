use Rattle.signal_graph.proofs.PrunedSound.{pruned_is_sound, pruned_is_loopless}
use Rattle.signal_graph.proofs.PrunedKeeps.{pruned_keeps}
use Rattle.flow_graph.proofs.pruning.prune.Goals as goal

pub returns-clause-sound : goal.returns-clause-sound
returns-clause-sound c = pruned_is_sound c.args.graph.now _ c.requires.sound c.in_ok-marked_graph.ensures

pub returns-clause-loopless : goal.returns-clause-loopless
returns-clause-loopless c =
    pruned_is_loopless c.args.graph.now _ c.requires.sound c.in_ok-marked_graph.ensures c.requires.loopless

pub returns-clause-keeps : goal.returns-clause-keeps
returns-clause-keeps c =
    pruned_keeps c.args.graph.now _ c.requires.sound c.requires.loopless c.in_ok-marked_graph.ensures
