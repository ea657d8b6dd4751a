use Rattle.std.proofs.Common.{ℕ, ◌≤◌, ◌<◌}
use Rattle.fix_word.specs.Words.{IsWord}
use Rattle.flow_graph.proofs.widths.least_width.Given as goal

abbrev pub invariant-loop-bits : goal.invariant-loop-bits
invariant-loop-bits l = (u : ℕ) → 1 ≤ u → u < l.bits → IsWord u l.word → ⊥
