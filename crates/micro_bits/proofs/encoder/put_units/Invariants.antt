use Rattle.std.proofs.Common.{◌≡◌, ◌++◌, take}
use Rattle.std.specs.List.{flat_map}
use Rattle.micro_image.specs.Bits.{in_bits}
use Rattle.micro_image.specs.Form.{spelled_unit}
use Rattle.micro_bits.proofs.encoder.put_units.Given as goal

abbrev pub invariant-loop-unit : goal.invariant-loop-unit
invariant-loop-unit l = l.out ≡ l.fn.out ++ flat_map (spelled_unit in_bits) (take l.unit-index l.unit-items)
