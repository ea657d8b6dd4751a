use Rattle.std.proofs.Common.{take}
use Rattle.std.specs.List.{All}
use Rattle.image_fit.specs.Fits.{IsTakeOn}
use Rattle.image_fit.proofs.words.check_takes.Given as goal

abbrev pub invariant-loop-take : goal.invariant-loop-take
invariant-loop-take l = All (IsTakeOn l.path) (take l.take-index l.take-items)
