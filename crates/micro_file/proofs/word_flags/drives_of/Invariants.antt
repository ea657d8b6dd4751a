use Rattle.std.proofs.Common.{◌≡◌}
use Rattle.std.specs.List.{flat_map, range_with_len}
use Rattle.micro_file.specs.Private.WordFlags.{unit_drives}
use Rattle.micro_file.proofs.word_flags.drives_of.Given as goal

abbrev pub invariant-loop-unit : goal.invariant-loop-unit
invariant-loop-unit l = l.drives ≡ flat_map (unit_drives l.buses) (range_with_len 0 l.unit)
