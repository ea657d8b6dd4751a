use Rattle.std.proofs.Common.{◌≡◌, ◌++◌, take}
use Rattle.std.specs.List.{flat_map}
use Rattle.microcode_asm.specs.Listing.{enable_line}
use Rattle.microcode_asm.proofs.word_lines.put_enables.Given as goal

abbrev pub invariant-loop-enable : goal.invariant-loop-enable
invariant-loop-enable l = l.out ≡ l.fn.out ++ flat_map enable_line (take l.enable-index l.enables)
