use Rattle.std.proofs.Common.{◌≡◌, take}
use Rattle.equation_eval.proofs.ran.past_of.Given as goal

abbrev pub invariant-loop-word : goal.invariant-loop-word
invariant-loop-word l = l.past ≡ take l.word-index l.row
