use Rattle.std.proofs.Common.{take}
use Rattle.std.specs.List.{All}
use Rattle.image_fit.specs.Fits.{IsWordOn}
use Rattle.image_fit.proofs.words.check_words.Given as goal

abbrev pub invariant-loop-number : goal.invariant-loop-number
invariant-loop-number l = All (IsWordOn l.path) (take l.number l.words)
