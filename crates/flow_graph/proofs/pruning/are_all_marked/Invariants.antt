use Rattle.std.proofs.Common.{◌≡◌, ℕ, ◌<◌, true}
use Rattle.flow_graph.specs.Private.Pruning.{is_marked}
use Rattle.flow_graph.proofs.pruning.are_all_marked.Given as goal

abbrev pub invariant-loop-mark : goal.invariant-loop-mark
invariant-loop-mark l = (v : ℕ) → v < l.mark-index → is_marked l.mark-items v ≡ true
