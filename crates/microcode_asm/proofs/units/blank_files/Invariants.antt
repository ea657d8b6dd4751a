use Rattle.std.proofs.Common.{◌≡◌, take, map}
use Rattle.microcode_asm.specs.Units.{zeros}
use Rattle.microcode_asm.proofs.units.blank_files.Given as goal

abbrev pub invariant-loop-size : goal.invariant-loop-size
invariant-loop-size l = l.files ≡ map zeros (take l.size-index l.sizes)
