use Rattle.std.proofs.Common.{◌≡◌, ◌++◌, take}
use Rattle.std.specs.List.{flat_map}
use Rattle.microcode_asm.specs.Listing.{take_line}
use Rattle.microcode_asm.proofs.word_lines.put_takes.Given as goal

abbrev pub invariant-loop-take : goal.invariant-loop-take
invariant-loop-take l = l.out ≡ l.fn.out ++ flat_map take_line (take l.take-index l.takes)
