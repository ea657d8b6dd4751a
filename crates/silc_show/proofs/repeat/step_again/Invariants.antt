use Rattle.std.proofs.Common.{◌≡◌, length}
use Rattle.std.specs.List.{AllZip}
use Rattle.signal_graph.specs.Rules.{IsInType}
use Rattle.silc_show.proofs.repeat.step_again.Given as goal

abbrev pub invariant-loop-turn : goal.invariant-loop-turn
invariant-loop-turn l =
    AllZip IsInType l.evaluator.graph.inputs l.row × (length l.put ≡ l.evaluator.graph.outs)
