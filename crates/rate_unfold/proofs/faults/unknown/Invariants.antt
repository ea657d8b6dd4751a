use Rattle.std.proofs.Common.{◌≡◌, drop}
use Rattle.rate_unfold.specs.Faults.{unknown}
use Rattle.rate_unfold.proofs.faults.unknown.Given as goal

abbrev pub invariant-loop-word : goal.invariant-loop-word
invariant-loop-word l = unknown l.count l.words ≡ unknown l.count (drop l.word-index l.words)
