use Rattle.std.proofs.Common.{◌≡◌, ◌*◌, ◌≤◌, map}
use Rattle.std.specs.List.{range_with_len}
use Rattle.micro_bits.specs.Idle.{sizes, files_of}
use Rattle.micro_bits.proofs.places.starts_of.Given as goal

abbrev pub invariant-loop-unit : goal.invariant-loop-unit
invariant-loop-unit l = record {
  files : l.files ≡ sizes (files_of l.image) 0 l.unit-index;
  few : l.files ≤ 256 * l.unit-index;
  starts : l.starts ≡ map (sizes (files_of l.image) 0) (range_with_len 0 l.unit-index);
}
