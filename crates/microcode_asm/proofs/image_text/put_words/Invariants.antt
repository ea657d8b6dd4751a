use Rattle.std.proofs.Common.{◌≡◌, ◌++◌}
use Rattle.std.specs.List.{flat_map, range_with_len}
use Rattle.microcode_asm.specs.Listing.{numbered_lines}
use Rattle.microcode_asm.proofs.image_text.put_words.Given as goal

abbrev pub invariant-loop-number : goal.invariant-loop-number
invariant-loop-number l = l.out ≡ l.fn.out ++ flat_map (numbered_lines l.image) (range_with_len 0 l.number)
