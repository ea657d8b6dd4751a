use Rattle.std.proofs.Common.{◌≡◌, drop}
use Rattle.signal_graph.specs.Rules.{word_before}
use Rattle.microcode_asm.proofs.starts.word_before.Given as goal

abbrev pub invariant-loop-k : goal.invariant-loop-k
invariant-loop-k l = word_before l.inits l.ago ≡ word_before (drop l.k-index l.inits) l.ago
