use Rattle.std.proofs.Common.{◌≡◌, ◌++◌, take}
use Rattle.std.specs.List.{flat_map}
use Rattle.micro_image.specs.Bits.{bits}
use Rattle.micro_bits.proofs.encoder.put_inputs.Given as goal

abbrev pub invariant-loop-width : goal.invariant-loop-width
invariant-loop-width l = l.out ≡ l.fn.out ++ flat_map (bits 6) (take l.width-index l.width-items)
