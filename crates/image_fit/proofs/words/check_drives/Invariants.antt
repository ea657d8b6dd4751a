use Rattle.std.proofs.Common.{take}
use Rattle.std.specs.List.{All}
use Rattle.image_fit.specs.Fits.{IsDriveOn}
use Rattle.image_fit.proofs.words.check_drives.Given as goal

abbrev pub invariant-loop-enable : goal.invariant-loop-enable
invariant-loop-enable l = All (IsDriveOn l.path) (take l.enable-index l.enable-items)
