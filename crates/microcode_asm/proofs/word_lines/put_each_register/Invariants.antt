use Rattle.std.proofs.Common.{◌≡◌, ◌++◌, take}
use Rattle.std.specs.List.{flat_map}
use Rattle.microcode_asm.specs.Listing.{register}
use Rattle.microcode_asm.proofs.word_lines.put_each_register.Given as goal

abbrev pub invariant-loop-reg : goal.invariant-loop-reg
invariant-loop-reg l = l.out ≡ l.fn.out ++ flat_map register (take l.reg-index l.regs)
