use Rattle.std.proofs.Common.{take}
use Rattle.std.specs.List.{All}
use Rattle.image_fit.specs.Fits.{StartsWithin}
use Rattle.image_fit.proofs.starts.check_starts.Given as goal

abbrev pub invariant-loop-number : goal.invariant-loop-number
invariant-loop-number l = All (StartsWithin l.bits) (take l.number l.units)
