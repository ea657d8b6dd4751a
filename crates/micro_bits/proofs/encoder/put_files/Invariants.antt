use Rattle.std.proofs.Common.{◌≡◌, ◌++◌, take}
use Rattle.std.specs.List.{flat_map}
use Rattle.micro_image.specs.Bits.{in_bits}
use Rattle.micro_image.specs.Form.{spelled_file}
use Rattle.micro_bits.proofs.encoder.put_files.Given as goal

abbrev pub invariant-loop-file : goal.invariant-loop-file
invariant-loop-file l = l.out ≡ l.fn.out ++ flat_map (spelled_file in_bits) (take l.file-index l.file-items)
