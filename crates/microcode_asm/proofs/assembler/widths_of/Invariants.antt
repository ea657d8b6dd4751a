use Rattle.std.proofs.Common.{◌≡◌, take, map}
use Rattle.plan_soundness.specs.ImageOf.{width_of}
use Rattle.microcode_asm.proofs.assembler.widths_of.Given as goal

abbrev pub invariant-loop-sig : goal.invariant-loop-sig
invariant-loop-sig l = l.widths ≡ map width_of (take l.sig-index l.types)
