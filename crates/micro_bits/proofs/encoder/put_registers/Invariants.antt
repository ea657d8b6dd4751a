use Rattle.std.proofs.Common.{◌≡◌, ◌++◌, take}
use Rattle.std.specs.List.{flat_map}
use Rattle.micro_image.specs.Bits.{bits}
use Rattle.micro_bits.proofs.encoder.put_registers.Given as goal

abbrev pub invariant-loop-reg : goal.invariant-loop-reg
invariant-loop-reg l = l.out ≡ l.fn.out ++ flat_map (bits 8) (take l.reg-index l.front)
