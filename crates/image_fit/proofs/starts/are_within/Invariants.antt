use Rattle.std.proofs.Common.{take}
use Rattle.std.specs.List.{All}
use Rattle.fix_word.specs.Words.{IsWord}
use Rattle.image_fit.proofs.starts.are_within.Given as goal

abbrev pub invariant-loop-at : goal.invariant-loop-at
invariant-loop-at l = All (IsWord l.bits) (take l.at l.words)
